-- The length of the vector (x, y), by document 01's stand-in for `hypot`. Assumes nothing.
use Rattle.std.specs.Prelude.{◌≡◌, refl, true, false, ◌||◌, cond, Float}
use Rattle.std.proofs.Math.Path.{sym}
use Rattle.std.proofs.Common.{◌∙◌, true≢false}
use Rattle.std.specs.Float.{nan, inf, fin}
use Rattle.std.specs.Float.Ieee.{is_nan, lt, eq, ne, div, of_bits}
use Rattle.number.specs.Float64.{◌⊕◌, ◌⊗◌, ◌⊘◌, zero64, one64}
use Rattle.number.specs.Sign.{is_infinite, magnitude_of}
use Rattle.number.specs.Patterns.{differs_nan, differs_is_nan, self_number}
use Rattle.number.specs.Root.{root_of}

-- g·√(1 + (h/g)·(h/g)), where g is the larger of two sizes and h the smaller, and +0 where g is 0
unfoldable pub long_of : Float → Float → Float
long_of g h = cond (eq g zero64) zero64 (g ⊗ root_of (one64 ⊕ (h ⊘ g) ⊗ (h ⊘ g)))

-- of two sizes, neither of them NaN
unfoldable pub of_sizes : Float → Float → Float
of_sizes a b = cond (lt a b) (long_of b a) (long_of a b)

-- either infinite gives plus infinity; else either NaN gives NaN
unfoldable pub hypot_of : Float → Float → Float
hypot_of x y = cond (is_infinite x || is_infinite y) (inf false) (cond (is_nan x || is_nan y) nan (of_sizes (magnitude_of x) (magnitude_of y)))

-- ---- one law for each way through the tests of `hypot`
pub one_by_zero : one64 ⊘ zero64 ≡ inf false
unfolding div of_bits
one_by_zero = refl

-- a size equals 1/0 where the number is infinite
pub infinite_test : (x : Float) → eq (magnitude_of x) (one64 ⊘ zero64) ≡ is_infinite x
unfolding eq magnitude_of is_infinite
infinite_test nan = refl
infinite_test (inf s) = rw one_by_zero refl
infinite_test (fin s m e) = rw one_by_zero refl

infinite_size : (x : Float) → is_infinite x ≡ true → magnitude_of x ≡ inf false
unfolding magnitude_of is_infinite
infinite_size nan h = absurd (true≢false (sym h))
infinite_size (inf s) h = refl
infinite_size (fin s m e) h = absurd (true≢false (sym h))

module _ (x y : Float) where
  pub hypot_first_infinite : is_infinite x ≡ true → magnitude_of x ≡ hypot_of x y
  unfolding hypot_of
  hypot_first_infinite h = infinite_size x h ∙ sym (simp h)

  pub hypot_second_infinite : is_infinite x ≡ false → is_infinite y ≡ true → magnitude_of y ≡ hypot_of x y
  unfolding hypot_of
  hypot_second_infinite g h = infinite_size y h ∙ sym (simp (g, h))

  module _ (g : is_infinite x ≡ false) (h : is_infinite y ≡ false) where
    pub hypot_first_nan : ne x x ≡ true → x ≡ hypot_of x y
    unfolding hypot_of
    hypot_first_nan n = let e = differs_nan x n in let k = differs_is_nan x n in e ∙ sym (simp (g, h, k))

    pub hypot_second_nan : ne x x ≡ false → ne y y ≡ true → y ≡ hypot_of x y
    unfolding hypot_of
    hypot_second_nan n d = let e = differs_nan y d in let k = differs_is_nan y d in e ∙ sym (simp (g, h, self_number x n, k))

    pub hypot_sizes : ne x x ≡ false → ne y y ≡ false → of_sizes (magnitude_of x) (magnitude_of y) ≡ hypot_of x y
    unfolding hypot_of
    hypot_sizes n k = sym (simp (g, h, self_number x n, self_number y k))
