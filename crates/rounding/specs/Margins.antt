-- How far a basin average and a grid value may lie from the exact sum of their terms. Definitions only.
-- Every finite double is a whole number of units of 2 ^ -1074, the integer `exact binary64 x` (see Units). The inequalities are therefore
-- between whole numbers: for an average both sides stand times 2 ^ (3 * 1074 + 53) = 2 ^ 3275, for a grid times 2 ^ (4 * 1074 + 53) = 2 ^ 4349.
-- N is the largest degree; sums run over all pairs (n, m) with 0 ≤ m ≤ n ≤ N. Computed sums and exact totals are in Sums.
use Rattle.std.specs.Prelude.{ℕ, zero, suc, ◌+◌, ◌*◌, ◌/◌, ◌^◌, ◌≤◌, max, ℤ, pos, nat_abs, ◌+ℤ◌, ◌-ℤ◌, ◌*ℤ◌, T, Float}
use Rattle.std.specs.Float.{binary64}
use Rattle.std.specs.Float.Ieee.{fits}
use Rattle.number.specs.Float64.{◌⊕◌, ◌⊗◌, ◌⊘◌}
use Rattle.number.specs.Units.{units_of}
use Rattle.rounding.specs.Units.{exact}
use Rattle.rounding.specs.Sums.{zero⁺, running_sum, triangle_sum, column_sum, triangle_total, triangle_total_ℤ}

-- T, the number of pairs
abbrev pub pairs : ℕ → ℕ
pairs N = (N + 1) * (N + 2) / 2

-- 1.0 in units
unfoldable pub one_in_units : ℕ
one_in_units = 2 ^ 1074

-- ---- the margins
-- F in units: the larger of 1 and the largest size among the factors of the degrees below n
unfoldable pub largest_factor : (ℕ → Float) → ℕ → ℕ
largest_factor factor zero = one_in_units
largest_factor factor (suc n) = max (units_of binary64 (factor n)) (largest_factor factor n)

-- of an average: T + 5 parts of 2 ^ -53 of the terms' sizes, and 3 T F + 1 parts of 2 ^ -1074 (times 2 ^ 1074 here, as F is in units)
unfoldable pub average_relative : ℕ → ℕ
average_relative N = pairs N + 5

unfoldable pub average_absolute : (ℕ → Float) → ℕ → ℕ
average_absolute factor N = 3 * pairs N * largest_factor factor (suc N) + one_in_units

-- of a grid value: 2 N + 7 parts of 2 ^ -53 of the terms' sizes, and 2 (N + 1) (N + 3) parts of 2 ^ -1074
unfoldable pub grid_relative : ℕ → ℕ
grid_relative N = 2 * N + 7

unfoldable pub grid_absolute : ℕ → ℕ
grid_absolute N = 2 * (N + 1) * (N + 3)

-- ---- what is asked of the numbers in a sum
-- at most 1 in size (an infinity and NaN count as 0 here; a finite sum has none)
abbrev pub AtMostOne : Float → Type 0
AtMostOne x = units_of binary64 x ≤ one_in_units

-- all numbers of a table, or of a line, that a sum up to degree N takes
abbrev pub TableAtMostOne : ℕ → (ℕ → ℕ → Float) → Type 0
TableAtMostOne N c = (n m : ℕ) → n ≤ N → m ≤ n → AtMostOne (c n m)

abbrev pub LineAtMostOne : ℕ → (ℕ → Float) → Type 0
LineAtMostOne N x = (m : ℕ) → m ≤ N → AtMostOne (x m)

-- every number is a double: `Float` is wider, and a call's lists hold doubles, NaN past their ends
abbrev pub TableFits : (ℕ → ℕ → Float) → Type 0
TableFits c = (n m : ℕ) → T (fits binary64 (c n m))

abbrev pub LineFits : (ℕ → Float) → Type 0
LineFits x = (n : ℕ) → T (fits binary64 (x n))

-- ---- the average of a field c, s over a basin with the kernel c', s'
module _ (c s c' s' : ℕ → ℕ → Float) (factor : ℕ → Float) where
  -- computed: factor * (c c' + s s')
  abbrev pub average_summand : ℕ → ℕ → Float
  average_summand n m = factor n ⊗ (c n m ⊗ c' n m ⊕ s n m ⊗ s' n m)

  -- added over rising n and m from +0.0, divided last by the kernel's first number
  abbrev pub average : ℕ → Float
  average N = triangle_sum binary64 average_summand (suc N) ⊘ c' 0 0

  -- the exact terms of a pair, in units of 2 ^ -(3 * 1074)
  unfoldable pub average_term_c : ℕ → ℕ → ℤ
  average_term_c n m = exact binary64 (factor n) *ℤ exact binary64 (c n m) *ℤ exact binary64 (c' n m)

  unfoldable pub average_term_s : ℕ → ℕ → ℤ
  average_term_s n m = exact binary64 (factor n) *ℤ exact binary64 (s n m) *ℤ exact binary64 (s' n m)

  -- both terms of a pair added; their sizes added, each term counted by itself
  unfoldable pub average_pair : ℕ → ℕ → ℤ
  average_pair n m = average_term_c n m +ℤ average_term_s n m

  unfoldable pub average_pair_size : ℕ → ℕ → ℕ
  average_pair_size n m = nat_abs (average_term_c n m) + nat_abs (average_term_s n m)

  -- |v c'(0,0) - exact sum| ≤ (T + 5) / 2 ^ 53 of the terms' sizes + (3 T F + 1) / 2 ^ 1074, both sides times 2 ^ 3275
  unfoldable pub AverageWithin : ℕ → Float → Type 0
  AverageWithin N v =
      nat_abs (exact binary64 v *ℤ exact binary64 (c' 0 0) *ℤ pos one_in_units -ℤ triangle_total_ℤ average_pair (suc N)) * 2 ^ 53
      ≤ average_relative N * triangle_total average_pair_size (suc N) + average_absolute factor N * one_in_units * 2 ^ 53

-- ---- the value of a field c, s at a point of a grid: P the latitude's Legendre table, cos and sin of m times the longitude
-- computed: factor * P before the coefficient
abbrev pub grid_summand : (P : ℕ → ℕ → Float) (factor : ℕ → Float) (c : ℕ → ℕ → Float) → ℕ → ℕ → Float
grid_summand P factor c n m = factor n ⊗ P n m ⊗ c n m

module _ (P : ℕ → ℕ → Float) (factor : ℕ → Float) (c s : ℕ → ℕ → Float) (cos sin : ℕ → Float) where
  -- the order m: its sums over rising n, each times its cosine or sine
  abbrev pub grid_order : ℕ → ℕ → Float
  grid_order N m = column_sum binary64 (grid_summand P factor c) (suc N) m ⊗ cos m ⊕ column_sum binary64 (grid_summand P factor s) (suc N) m ⊗ sin m

  -- the orders added over rising m from +0.0
  abbrev pub grid_value : ℕ → Float
  grid_value N = running_sum binary64 (grid_order N) (suc N) zero⁺

  -- the exact terms of a pair, in units of 2 ^ -(4 * 1074)
  unfoldable pub grid_term_c : ℕ → ℕ → ℤ
  grid_term_c n m = exact binary64 (factor n) *ℤ exact binary64 (P n m) *ℤ exact binary64 (c n m) *ℤ exact binary64 (cos m)

  unfoldable pub grid_term_s : ℕ → ℕ → ℤ
  grid_term_s n m = exact binary64 (factor n) *ℤ exact binary64 (P n m) *ℤ exact binary64 (s n m) *ℤ exact binary64 (sin m)

  -- both terms of a pair added; their sizes added, each term counted by itself
  unfoldable pub grid_pair : ℕ → ℕ → ℤ
  grid_pair n m = grid_term_c n m +ℤ grid_term_s n m

  unfoldable pub grid_pair_size : ℕ → ℕ → ℕ
  grid_pair_size n m = nat_abs (grid_term_c n m) + nat_abs (grid_term_s n m)

  -- |v - exact sum| ≤ (2 N + 7) / 2 ^ 53 of the terms' sizes + 2 (N + 1) (N + 3) / 2 ^ 1074, both sides times 2 ^ 4349
  unfoldable pub GridWithin : ℕ → Float → Type 0
  GridWithin N v =
      nat_abs (exact binary64 v *ℤ pos (one_in_units * one_in_units * one_in_units) -ℤ triangle_total_ℤ grid_pair (suc N)) * 2 ^ 53
      ≤ grid_relative N * triangle_total grid_pair_size (suc N) + grid_absolute N * (one_in_units * one_in_units * one_in_units) * 2 ^ 53
