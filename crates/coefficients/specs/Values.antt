-- What the calls make of the coefficients: entries, heads, degree variances and degree amplitudes. Assumes nothing.
use Rattle.std.specs.Prelude.{◌≡◌, refl, List, ℕ, ◌+◌, min, get_or, Float, None}
use Rattle.std.proofs.Common.{ap, ◌∙◌}
use Rattle.std.specs.Float.{nan}
use Rattle.number.specs.Float64.{◌⊕◌, ◌⊗◌, zero64}
use Rattle.number.specs.Power.{power_of}
use Rattle.number.specs.Identities.{power_2}
use Rattle.number.specs.Root.{root_of}
use Rattle.number.specs.Sign.{magnitude_of}
use Rattle.storage.specs.Fold.{fold_left}
use Rattle.storage.specs.Triangle.{row_start, idx}
use Rattle.functional.specs.Factor.{factor_of}
use Rattle.functional.specs.declared.Functional.{Functional}
use Rattle.coefficients.specs.declared.Head.{Head}
use Rattle.coefficients.specs.declared.TideSystem.TheVariants.{Unknown}

-- ---- the heads of the fields that are made
abbrev pub zero_head : Float → Float → ℕ → Head
zero_head gm radius nmax = record { gm = gm; radius = radius; tide_system = Unknown; date = None; nmax = nmax }

abbrev pub cut_head : Head → ℕ → Head
cut_head h cut = record { gm = h.gm; radius = h.radius; tide_system = h.tide_system; date = h.date; nmax = min cut h.nmax }

abbrev pub rescaled_head : Head → Float → Float → Head
rescaled_head h gm radius = record { gm = gm; radius = radius; tide_system = h.tide_system; date = h.date; nmax = h.nmax }

-- ---- entries
-- C(n,m) times (GM/GM') (R/R')^n, where q and t are the two quotients: the quotient first, then times the power
unfoldable pub rescaled_entry : Float → Float → List Float → ℕ → ℕ → Float
rescaled_entry q t list n m = get_or list (idx n m) nan ⊗ (q ⊗ power_of t n)

-- the row that starts at index at, times f
unfoldable pub scaled_from : Float → ℕ → List Float → ℕ → Float
scaled_from f at list m = get_or list (at + m) nan ⊗ f

-- ---- degree variances
-- C² + S² of the order m in the row that starts at index at
unfoldable pub squares_from : ℕ → List Float → List Float → ℕ → Float
squares_from at c s m = power_of (get_or c (at + m) nan) 2 ⊕ power_of (get_or s (at + m) nan) 2

-- the variance of degree n: the sum of C(n,m)² + S(n,m)² over m = 0 .. n, from +0 and left to right
unfoldable pub variance_of : List Float → List Float → ℕ → Float
variance_of c s n = fold_left ◌⊕◌ (squares_from (row_start n) c s) zero64 (n + 1)

-- |factor(n)| √variance, with the factor on the reference sphere
unfoldable pub amplitude_from : Functional → List Float → Float → Float → ℕ → Float → Float
amplitude_from f love gm radius n variance = magnitude_of (factor_of f love gm radius radius n) ⊗ root_of variance

-- the amplitude of degree n
unfoldable pub amplitude_of : Functional → List Float → Float → Float → List Float → List Float → ℕ → Float
amplitude_of f love gm radius c s n = amplitude_from f love gm radius n (variance_of c s n)

-- ---- laws
pub rescaled_row : (q t : Float) (list : List Float) (n at m : ℕ) {p : Float} → p ≡ power_of t n → at ≡ row_start n
    → scaled_from (q ⊗ p) at list m ≡ rescaled_entry q t list n m
unfolding rescaled_entry scaled_from
rescaled_row q t list n at m {p} h e =
    ap (λ (x : Float). get_or list (at + m) nan ⊗ (q ⊗ x)) h ∙ ap (λ (i : ℕ). get_or list (i + m) nan ⊗ (q ⊗ power_of t n)) e

-- the code multiplies a number by itself
pub squares_product : (at : ℕ) (c s : List Float) (m : ℕ)
    → get_or c (at + m) nan ⊗ get_or c (at + m) nan ⊕ get_or s (at + m) nan ⊗ get_or s (at + m) nan ≡ squares_from at c s m
unfolding squares_from
squares_product at c s m = rw (power_2 (get_or c (at + m) nan), power_2 (get_or s (at + m) nan)) refl

pub variance_row : (c s : List Float) (n at : ℕ) → at ≡ row_start n → fold_left ◌⊕◌ (squares_from at c s) zero64 (n + 1) ≡ variance_of c s n
unfolding variance_of
variance_row c s n at e = ap (λ (i : ℕ). fold_left ◌⊕◌ (squares_from i c s) zero64 (n + 1)) e
