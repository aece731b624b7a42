-- The gravity anomaly's factor at the degrees 0 and 1, for every double: where gm/(r·r) is positive and finite it is negative at degree 0; at
-- degree 1 it is a zero where gm/(r·r) and radius/r are finite, and NaN where either is not. Assumes nothing.
use Rattle.std.specs.Prelude.{◌≡◌, refl, Bool, true, not, ◌&&◌, List, ◌+◌, ◌*◌, pos, Float}
use Rattle.std.proofs.Math.Path.{ap}
use Rattle.std.proofs.Common.{◌∙◌, mul-pos, arith, lt-ltb, ltb→lt}
use Rattle.std.proofs.Math.Bool.{false}
use Rattle.std.proofs.Math.Dec.{T}
use Rattle.std.specs.Float.{nan, inf}
use Rattle.std.specs.Float.Ieee.{fin, binary64, of_int, of_bits, sub, neg, lt, eq, mul, fits, up, down}
use Rattle.std.specs.Float.Ieee.Fits.{up_pos, div-fits, neg-fits}
use Rattle.std.specs.Float.Ieee.Scale.{finite}
use Rattle.std.specs.Float.Ieee.Positive.{positive}
use Rattle.number.specs.Float64.{◌⊖◌, ◌⊗◌, ◌⊘◌, of_whole, zero64, one64}
use Rattle.number.specs.Power.{power_of}
use Rattle.number.specs.Identities.{product_comm, times_one, times_minus_one, zero_times, zero_times_nan, power_0, power_1}
use Rattle.functional.specs.declared.Functional.TheVariants.{GravityAnomaly}
use Rattle.functional.specs.Factor.{factor_of}

-- n − 1 at the two degrees
minus_one : of_whole 0 ⊖ one64 ≡ neg one64
unfolding sub of_int of_bits neg
minus_one = refl

none : of_whole 1 ⊖ one64 ≡ fin false 0 (pos 0)
unfolding sub of_int of_bits
none = refl

below_zero : (x : Float) → T (positive x) → lt (neg x) zero64 ≡ true
unfolding lt neg of_bits
below_zero nan h = absurd h
below_zero (inf s) h = absurd h
below_zero (fin true m e) h = absurd h
below_zero (fin false m e) h = lt-ltb 0 (m * up e * 1 + 0 * down e) (omega (arith, mul-pos (ltb→lt 0 m h) (up_pos e)))

is_zero : (s : Bool) → eq (fin s 0 (pos 0)) zero64 ≡ true
unfolding eq of_bits
is_zero true = refl
is_zero false = refl

products_nan : (g q : Float) → T (not (finite g && finite q)) → fin false 0 (pos 0) ⊗ g ⊗ q ≡ nan
unfolding mul
products_nan nan q h = refl
products_nan (inf s) q h = refl
products_nan (fin s m e) q h = let (t, p) = zero_times false (fin s m e) tt in ap (λ (x : Float). x ⊗ q) p ∙ zero_times_nan t q h

module _ (love : List Float) (gm radius r : Float) where
  -- gm/r², the gravity of the sphere, and radius/r
  abbrev gravity : Float
  gravity = gm ⊘ (r ⊗ r)

  abbrev ratio : Float
  ratio = radius ⊘ r

  pub anomaly_0 : factor_of GravityAnomaly love gm radius r 0 ≡ neg (gm ⊘ (r ⊗ r))
  unfolding factor_of
  anomaly_0 =
      ap (λ (x : Float). x ⊗ power_of ratio 0) (ap (λ (x : Float). gravity ⊗ x) minus_one ∙ times_minus_one gravity fit)
      ∙ ap (λ (x : Float). neg gravity ⊗ x) (power_0 ratio)
      ∙ times_one (neg gravity) (neg-fits binary64 gravity fit)
    where
      fit : T (fits binary64 gravity)
      fit = div-fits binary64 gm (r ⊗ r)

  pub anomaly_negative : T (positive (gm ⊘ (r ⊗ r))) → lt (factor_of GravityAnomaly love gm radius r 0) zero64 ≡ true
  anomaly_negative h = ap (λ (x : Float). lt x zero64) anomaly_0 ∙ below_zero gravity h

  anomaly_1 : factor_of GravityAnomaly love gm radius r 1 ≡ fin false 0 (pos 0) ⊗ gravity ⊗ ratio
  unfolding factor_of
  anomaly_1 =
      ap (λ (x : Float). gravity ⊗ x ⊗ power_of ratio 1) none
      ∙ ap (λ (x : Float). x ⊗ power_of ratio 1) (product_comm binary64 gravity (fin false 0 (pos 0)))
      ∙ ap (λ (x : Float). fin false 0 (pos 0) ⊗ gravity ⊗ x) (power_1 ratio (div-fits binary64 radius r))

  pub anomaly_zero : T (finite (gm ⊘ (r ⊗ r))) → T (finite (radius ⊘ r)) → eq (factor_of GravityAnomaly love gm radius r 1) zero64 ≡ true
  anomaly_zero h g =
      let (s, p) = zero_times false gravity h in
      let (t, q) = zero_times s ratio g in
      ap (λ (x : Float). eq x zero64) (anomaly_1 ∙ ap (λ (x : Float). x ⊗ ratio) p ∙ q) ∙ is_zero t

  pub anomaly_nan : T (not (finite (gm ⊘ (r ⊗ r)) && finite (radius ⊘ r))) → factor_of GravityAnomaly love gm radius r 1 ≡ nan
  anomaly_nan h = anomaly_1 ∙ products_nan gravity ratio h
