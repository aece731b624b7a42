-- The arithmetic of the margins: up to degree 2700 they pay for all roundings. Here a margin that is too small fails. Assumes nothing.
use Rattle.std.specs.Prelude.{◌≡◌, ◌⊎◌, ℕ, zero, suc, ◌+◌, ◌*◌, ◌/◌, ◌^◌, ◌≤◌, ◌<◌, max, Float}
use Rattle.std.proofs.Common.{sym, ap, subst, inl, inr, suc-le-suc, le_refl, le_trans, le_of_eq, mul-le-mul, mul-le-mul_left, eq-or-lt_of_le, le_of_suc-le-suc, not-suc-le-zero, arith}
use Rattle.std.proofs.Math.Nat.{le-max_left, le-max_right}
use Rattle.std.specs.Float.{binary64}
use Rattle.number.specs.Units.{units_of}
use Rattle.rounding.specs.Units.{positive_part, negative_part, parts_size}
use Rattle.rounding.specs.Margins.{pairs, one_in_units, largest_factor, average_relative, average_absolute, grid_relative, grid_absolute}
use Rattle.rounding.specs.Approximation.{guard}
use Rattle.rounding.specs.RunningSums.{count, count_is, count_le}

-- ---- roundings, each guard + 1 parts of 2 ^ -53 / guard, and half units
pub guard_positive : 0 < guard
unfolding guard
guard_positive = omega arith

count_pairs : (N : ℕ) → count (suc N) ≡ pairs N
count_pairs N = go (count (suc N)) (count_is (suc N))
  where
    go : (x : ℕ) → 2 * x ≡ suc N * (suc N + 1) → x ≡ (N + 1) * (N + 2) / 2
    go x e = omega arith

count_2700 : (N : ℕ) → N ≤ 2700 → count (suc N) ≤ 3649051
count_2700 N h = omega (arith, count_le (suc N) 2701 (suc-le-suc h))

-- T additions, 3 roundings in a term and the division
pub average_roundings : (N : ℕ) → N ≤ 2700 → (count (suc N) + 4) * (guard + 1) ≤ average_relative N * guard
unfolding guard average_relative
average_roundings N h = omega (arith, count_pairs N, count_2700 N h)

pub average_relative_le : (N : ℕ) → N ≤ 2700 → average_relative N ≤ 2 ^ 53
unfolding average_relative
average_relative_le N h = omega (arith, count_pairs N, count_2700 N h)

pub average_room : (N : ℕ) → N ≤ 2700 → (count (suc N) + 4) * (guard + 1) ≤ 2 ^ 53
unfolding guard
average_room N h = omega (arith, count_2700 N h)

-- half units: at most 3 F in a term, F bounding 1 and the factors, and one in the quotient
pub average_halves : (factor : ℕ → Float) (N : ℕ) → 3 * count (suc N) * largest_factor factor (suc N) + one_in_units ≤ average_absolute factor N
unfolding average_absolute
average_halves factor N = omega (arith, ap (λ (x : ℕ). x * largest_factor factor (suc N)) (count_pairs N))

-- N + 1 additions in a column and in the line of the orders, 4 more in an order
pub grid_roundings : (N : ℕ) → N ≤ 2700 → (2 * N + 6) * (guard + 1) ≤ grid_relative N * guard
unfolding guard grid_relative
grid_roundings N h = omega arith

pub grid_room : (N : ℕ) → N ≤ 2700 → (suc N + 4 + suc N) * (guard + 1) ≤ 2 ^ 53
unfolding guard
grid_room N h = omega arith

-- half units: 2 N + 3 in each of an order's two products, over N + 1 orders
pub grid_halves : (N : ℕ) → N ≤ 2700 → (grid_relative N + 2 ^ 53) * ((N + 1) * (4 * N + 6)) ≤ 2 * grid_absolute N * 2 ^ 53
unfolding grid_relative grid_absolute
grid_halves N h = omega (arith, mul-le-mul_left (N + 1) (small N h))
  where
    small : (N : ℕ) → N ≤ 2700 → (2 * N + 7) * (4 * N + 6) ≤ 6 * 2 ^ 53
    small N h = omega (arith, mul-le-mul h h)

-- ---- the largest factor bounds 1 and the factors
pub largest_one : (factor : ℕ → Float) (k : ℕ) → one_in_units ≤ largest_factor factor k
unfolding largest_factor
largest_one factor zero = le_refl one_in_units
largest_one factor (suc k) = le_trans (largest_one factor k) (le-max_right (units_of binary64 (factor k)) (largest_factor factor k))

pub largest_most : (factor : ℕ → Float) (k n : ℕ) → n < k → units_of binary64 (factor n) ≤ largest_factor factor k
unfolding largest_factor
largest_most factor zero n h = absurd (not-suc-le-zero h)
largest_most factor (suc k) n h = pick (largest_most factor k n) (eq-or-lt_of_le (le_of_suc-le-suc h))
  where
    pick : (n < k → units_of binary64 (factor n) ≤ largest_factor factor k) → (n ≡ k) ⊎ (n < k)
        → units_of binary64 (factor n) ≤ max (units_of binary64 (factor k)) (largest_factor factor k)
    pick ih (inl e) =
        subst (λ (i : ℕ). units_of binary64 (factor i) ≤ max (units_of binary64 (factor k)) (largest_factor factor k)) (sym e)
        (le-max_left (units_of binary64 (factor k)) (largest_factor factor k))
    pick ih (inr l) = le_trans (ih l) (le-max_right (units_of binary64 (factor k)) (largest_factor factor k))

pub parts_le : (x : Float) (b : ℕ) → units_of binary64 x ≤ b → positive_part binary64 x + negative_part binary64 x ≤ b
parts_le x b h = le_trans (le_of_eq (parts_size binary64 x)) h
