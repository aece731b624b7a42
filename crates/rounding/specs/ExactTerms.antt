-- The exact terms of an average and of a grid value, by their positive and negative parts. Assumes nothing.
use Rattle.std.specs.Prelude.{◌≡◌, ℕ, ◌+◌, ◌*◌, ◌≤◌, ◌*ℤ◌, Float}
use Rattle.std.proofs.Common.{arith}
use Rattle.std.specs.Float.{binary64}
use Rattle.rounding.specs.Integers.{Difference, Parts, parts_mul, parts_rewritten, difference_add}
use Rattle.rounding.specs.Units.{positive_part, negative_part, exact, exact_parts, positive_product, negative_product}
use Rattle.rounding.specs.Margins.{average_term_c, average_term_s, average_pair, average_pair_size, grid_term_c, grid_term_s, grid_pair, grid_pair_size}
use Rattle.rounding.specs.ColumnSums.{combined}
use Rattle.rounding.specs.AverageBound as A
use Rattle.rounding.specs.GridBound as G

-- ---- an average's
-- the parts of factor x y, as the average computes it
term_parts : (g x y : Float) → Parts (exact binary64 g *ℤ exact binary64 x *ℤ exact binary64 y)
    (positive_product binary64 x y * positive_part binary64 g + negative_product binary64 x y * negative_part binary64 g)
    (positive_product binary64 x y * negative_part binary64 g + negative_product binary64 x y * positive_part binary64 g)
term_parts g x y =
    parts_rewritten (parts_mul (parts_mul (exact_parts binary64 g) (exact_parts binary64 x)) (exact_parts binary64 y))
    (positive (positive_part binary64 g) (negative_part binary64 g) (positive_part binary64 x) (negative_part binary64 x) (positive_part binary64 y)
    (negative_part binary64 y))
    (negative (positive_part binary64 g) (negative_part binary64 g) (positive_part binary64 x) (negative_part binary64 x) (positive_part binary64 y)
    (negative_part binary64 y))
  where
    positive : (a b c d e f : ℕ) → (a * c + b * d) * e + (a * d + b * c) * f ≡ (c * e + d * f) * a + (c * f + d * e) * b
    positive a b c d e f = omega arith

    negative : (a b c d e f : ℕ) → (a * c + b * d) * f + (a * d + b * c) * e ≡ (c * e + d * f) * b + (c * f + d * e) * a
    negative a b c d e f = omega arith

module _ (c s c' s' : ℕ → ℕ → Float) (factor : ℕ → Float) where
  pub average_difference : (n m : ℕ) → Difference (average_pair c s c' s' factor n m) (A.positive_pair binary64 c s c' s' factor n m)
      (A.negative_pair binary64 c s c' s' factor n m)
  unfolding average_pair average_term_c average_term_s A.positive_pair A.negative_pair
  average_difference n m = difference_add (term_parts (factor n) (c n m) (c' n m)).difference (term_parts (factor n) (s n m) (s' n m)).difference

  -- each term is counted by itself
  pub average_size : (n m : ℕ) → A.positive_pair binary64 c s c' s' factor n m + A.negative_pair binary64 c s c' s' factor n m
      ≤ average_pair_size c s c' s' factor n m
  unfolding average_pair_size average_term_c average_term_s A.positive_pair A.negative_pair
  average_size n m = omega (arith, (term_parts (factor n) (c n m) (c' n m)).size, (term_parts (factor n) (s n m) (s' n m)).size)

-- ---- a grid value's
module _ (P : ℕ → ℕ → Float) (factor : ℕ → Float) (c s : ℕ → ℕ → Float) (cos sin : ℕ → Float) where
  grid_parts : (n m : ℕ) (x y : Float) → Parts (exact binary64 (factor n) *ℤ exact binary64 (P n m) *ℤ exact binary64 x *ℤ exact binary64 y)
      ((positive_product binary64 (factor n) (P n m) * positive_part binary64 x + negative_product binary64 (factor n)
      (P n m) * negative_part binary64 x) * positive_part binary64 y
      + (positive_product binary64 (factor n) (P n m) * negative_part binary64 x + negative_product binary64 (factor n)
      (P n m) * positive_part binary64 x) * negative_part binary64 y)
      ((positive_product binary64 (factor n) (P n m) * positive_part binary64 x + negative_product binary64 (factor n)
      (P n m) * negative_part binary64 x) * negative_part binary64 y
      + (positive_product binary64 (factor n) (P n m) * negative_part binary64 x + negative_product binary64 (factor n)
      (P n m) * positive_part binary64 x) * positive_part binary64 y)
  grid_parts n m x y =
      parts_mul (parts_mul (parts_mul (exact_parts binary64 (factor n)) (exact_parts binary64 (P n m))) (exact_parts binary64 x))
      (exact_parts binary64 y)

  pub grid_difference : (n m : ℕ) → Difference (grid_pair P factor c s cos sin n m) (G.positive_pair binary64 P factor c s cos sin n m)
      (G.negative_pair binary64 P factor c s cos sin n m)
  unfolding grid_pair grid_term_c grid_term_s combined G.positive_term G.negative_term
  grid_difference n m = difference_add (grid_parts n m (c n m) (cos m)).difference (grid_parts n m (s n m) (sin m)).difference

  -- each term is counted by itself
  pub grid_size : (n m : ℕ) → G.positive_pair binary64 P factor c s cos sin n m + G.negative_pair binary64 P factor c s cos sin n m
      ≤ grid_pair_size P factor c s cos sin n m
  unfolding grid_pair_size grid_term_c grid_term_s combined G.positive_term G.negative_term
  grid_size n m = omega (arith, (grid_parts n m (c n m) (cos m)).size, (grid_parts n m (s n m) (sin m)).size)
