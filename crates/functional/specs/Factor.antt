-- The factor of a degree for each functional, in the order of the code's operations, and what `factor` answers. Assumes nothing.
use Rattle.std.specs.Prelude.{◌≡◌, Bool, true, false, cond, List, ℕ, ◌≤◌, ◌<◌, T, leb, ltb, length, get_or, Float, Err, Ok, Result}
use Rattle.std.proofs.Common.{ap, lt-ltb, le-ltb}
use Rattle.std.specs.Float.{nan, binary64}
use Rattle.std.specs.Float.Ieee.{fits}
use Rattle.std.specs.Float.Ieee.Fits.{mul-fits, div-fits}
use Rattle.number.specs.Float64.{◌⊕◌, ◌⊖◌, ◌⊗◌, ◌⊘◌, double, of_whole, one64, two64, three64}
use Rattle.number.specs.Power.{power_of}
use Rattle.refusal.specs.declared.Refusal.TheVariants.{Size, Love}
use Rattle.functional.specs.declared.Functional.{Functional}
use Rattle.functional.specs.declared.Functional.TheVariants.{Potential, GeoidHeight, GravityDisturbance, GravityAnomaly, RadialGradient, WaterHeight}
use Rattle.refusal.specs.declared.Refusal.{Refusal}

-- the mean density of the Earth, 5517, and the density of water, 1000, in kg/m³
abbrev rho_earth : Float
rho_earth = double 0x40b5_8d00_0000_0000

abbrev rho_water : Float
rho_water = double 0x408f_4000_0000_0000

-- (R/r)^n, by which a term of degree n falls off
abbrev attenuation : Float → Float → ℕ → Float
attenuation radius r n = power_of (radius ⊘ r) n

-- the factor of degree n at radius r, with the Love numbers in a list
unfoldable pub factor_of : Functional → List Float → Float → Float → Float → ℕ → Float
-- V: GM/r (R/r)^n
factor_of Potential love gm radius r n = gm ⊘ r ⊗ attenuation radius r n
-- T/γ with γ = GM/r² (Bruns): r (R/r)^n
factor_of GeoidHeight love gm radius r n = r ⊗ attenuation radius r n
-- −∂T/∂r: GM/r² (n + 1) (R/r)^n
factor_of GravityDisturbance love gm radius r n = gm ⊘ (r ⊗ r) ⊗ (of_whole n ⊕ one64) ⊗ attenuation radius r n
-- −∂T/∂r − 2T/r: GM/r² (n − 1) (R/r)^n
factor_of GravityAnomaly love gm radius r n = gm ⊘ (r ⊗ r) ⊗ (of_whole n ⊖ one64) ⊗ attenuation radius r n
-- ∂²T/∂r²: GM/r³ (n + 1) (n + 2) (R/r)^n
factor_of RadialGradient love gm radius r n =
    gm ⊘ (r ⊗ r ⊗ r) ⊗ (of_whole n ⊕ one64) ⊗ (of_whole n ⊕ two64) ⊗ attenuation radius r n
-- Wahr et al. 1998, eq. 14, over the density of water: R ρₑ/(3 ρ_w) (2n + 1)/(1 + k'(n))
factor_of WaterHeight love gm radius r n =
    radius ⊗ rho_earth ⊘ (three64 ⊗ rho_water) ⊗ (two64 ⊗ of_whole n ⊕ one64) ⊘ (one64 ⊕ get_or love n nan)

-- it is a double
pub factor_fits : (f : Functional) (love : List Float) (gm radius r : Float) (n : ℕ) → T (fits binary64 (factor_of f love gm radius r n))
unfolding factor_of
factor_fits Potential love gm radius r n = mul-fits binary64 _ _
factor_fits GeoidHeight love gm radius r n = mul-fits binary64 _ _
factor_fits GravityDisturbance love gm radius r n = mul-fits binary64 _ _
factor_fits GravityAnomaly love gm radius r n = mul-fits binary64 _ _
factor_fits RadialGradient love gm radius r n = mul-fits binary64 _ _
factor_fits WaterHeight love gm radius r n = div-fits binary64 _ _

-- a list of so many Love numbers has none for degree n, and the functional wants one
abbrev pub lacks_love : Functional → ℕ → ℕ → Bool
lacks_love WaterHeight numbers n = leb numbers n
lacks_love Potential numbers n = false
lacks_love GeoidHeight numbers n = false
lacks_love GravityDisturbance numbers n = false
lacks_love GravityAnomaly numbers n = false
lacks_love RadialGradient numbers n = false

-- what `factor` answers: SIZE for a degree above 2700, then LOVE, else the factor
unfoldable pub factor_answer : Functional → List Float → ℕ → Float → Float → Float → Result Float Refusal
factor_answer f love n gm radius r =
    cond (ltb 2700 n) (Err Size) (cond (lacks_love f (length love) n) (Err Love) (Ok (factor_of f love gm radius r n)))

-- ---- one law for each way through the checks
module _ (f : Functional) (love : List Float) (n : ℕ) (gm radius r : Float) where
  pub factor_size : 2700 < n → Err Size ≡ factor_answer f love n gm radius r
  unfolding factor_answer
  factor_size h = simp (lt-ltb 2700 n h)

  pub factor_love : n ≤ 2700 → lacks_love f (length love) n ≡ true → Err Love ≡ factor_answer f love n gm radius r
  unfolding factor_answer
  factor_love h e = simp (le-ltb 2700 n h, e)

  pub factor-value : {x : Float} → n ≤ 2700 → lacks_love f (length love) n ≡ false → x ≡ factor_of f love gm radius r n → Ok x ≡ factor_answer f love n gm radius r
  unfolding factor_answer
  factor-value h e g = simp (le-ltb 2700 n h, e) (ap Ok g)
