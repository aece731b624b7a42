-- The order by which numbers are ranked: Rust's `total_cmp`, with every NaN equal and above plus infinity. Assumes nothing.
use Rattle.std.specs.Prelude.{◌≡◌, Bool, not, ◌&&◌, ◌||◌, Float}
use Rattle.std.proofs.Math.Path.{refl}
use Rattle.std.proofs.Common.{sym, ap, true≢false}
use Rattle.std.proofs.Math.Bool.{true, false, cond}
use Rattle.std.specs.Float.{nan, inf, fin}
use Rattle.std.specs.Float.Ieee.{is_nan, lt, eq, ne}
use Rattle.number.specs.Sign.{negative}
use Rattle.number.specs.Patterns.{differs_nan}

-- x stands below y: as numbers do, −0 below +0, and every number below NaN
unfoldable pub ranks_below : Float → Float → Bool
ranks_below x y = cond (is_nan y) (not (is_nan x)) (cond (is_nan x) false (lt x y || (eq x y && (negative x && not (negative y)))))

-- a falling ranking has x before y
abbrev pub ranks_before : Float → Float → Bool
ranks_before x y = ranks_below y x

-- ---- one law for each way through the tests of `ranks_before`
less_numbers : (x y : Float) → lt x y ≡ true → (is_nan x ≡ false) × (is_nan y ≡ false)
unfolding lt is_nan
less_numbers nan y h = absurd (true≢false (sym h))
less_numbers (inf s) nan h = absurd (true≢false (sym h))
less_numbers (inf s) (inf t) h = (refl, refl)
less_numbers (inf s) (fin t n d) h = (refl, refl)
less_numbers (fin s m e) nan h = absurd (true≢false (sym h))
less_numbers (fin s m e) (inf t) h = (refl, refl)
less_numbers (fin s m e) (fin t n d) h = (refl, refl)

equal_numbers : (x y : Float) → eq x y ≡ true → (is_nan x ≡ false) × (is_nan y ≡ false)
unfolding eq is_nan
equal_numbers nan y h = absurd (true≢false (sym h))
equal_numbers (inf s) nan h = absurd (true≢false (sym h))
equal_numbers (inf s) (inf t) h = (refl, refl)
equal_numbers (inf s) (fin t n d) h = absurd (true≢false (sym h))
equal_numbers (fin s m e) nan h = absurd (true≢false (sym h))
equal_numbers (fin s m e) (inf t) h = absurd (true≢false (sym h))
equal_numbers (fin s m e) (fin t n d) h = (refl, refl)

module _ (x y : Float) where
  pub below_less : lt x y ≡ true → true ≡ ranks_below x y
  unfolding ranks_below
  below_less h = let n = less_numbers x y h in simp (n.0, n.1, h)

  pub below_equal : lt x y ≡ false → eq x y ≡ true → negative x && not (negative y) ≡ ranks_below x y
  unfolding ranks_below
  below_equal l h = let n = equal_numbers x y h in simp (n.0, n.1, l, h)

  pub below_nan : is_nan y ≡ true → not (is_nan x) ≡ ranks_below x y
  unfolding ranks_below
  below_nan h = simp h

  pub below_else : lt x y ≡ false → eq x y ≡ false → is_nan y ≡ false → false ≡ ranks_below x y
  unfolding ranks_below
  below_else l h n = simp (n, l, h) (go (is_nan x))
    where
      go : (b : Bool) → false ≡ cond b false false
      go true = refl
      go false = refl

-- a number equals itself, and NaN does not
pub self_equal : (x : Float) → eq x x ≡ not (is_nan x)
unfolding ne is_nan
self_equal x = go (eq x x) refl
  where
    go : (b : Bool) → eq x x ≡ b → b ≡ not (is_nan x)
    go true h = rw (equal_numbers x x h).0 refl
    go false h = ap (λ (y : Float). not (is_nan y)) (sym (differs_nan x (ap not h)))
