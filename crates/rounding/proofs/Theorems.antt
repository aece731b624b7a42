-- Every finite basin average times the kernel's first number, where that is at most 1 in size, and every finite grid value, where c, s, the cosines
-- and the sines of its sum are at most 1 in size, lies within its margin (Margins) of the exact sum, up to degree 2700. Assumes nothing.
use Rattle.std.proofs.Common.{sym, subst, mul-le-mul_left, le_of_suc-le-suc, arith}
use Rattle.std.specs.Prelude.{ℕ, suc, ◌+◌, ◌*◌, ◌^◌, ◌≤◌, T, Float}
use Rattle.std.specs.Float.{binary64}
use Rattle.std.specs.Float.Ieee.Scale.{finite}
use Rattle.rounding.specs.Distance.{dist}
use Rattle.rounding.specs.Integers.{difference_sub, difference_mul, difference_scale, abs_difference}
use Rattle.rounding.specs.Units.{positive_part, negative_part, exact_difference, positive_product, negative_product}
use Rattle.rounding.specs.Sums.{triangle_sum, triangle_total}
use Rattle.number.specs.Float64.{◌⊕◌, ◌⊗◌}
use Rattle.rounding.specs.Margins.{one_in_units, largest_factor, average_relative, average_absolute, grid_relative, grid_absolute, AtMostOne, TableAtMostOne, LineAtMostOne, TableFits, LineFits, average_summand, average, average_pair, average_pair_size, AverageWithin, grid_value, grid_pair, grid_pair_size, GridWithin}
use Rattle.rounding.specs.MarginArithmetic.{guard_positive, average_roundings, average_relative_le, average_room, average_halves, grid_roundings, grid_room, grid_halves, largest_one, largest_most, parts_le}
use Rattle.rounding.specs.FiniteOperands.{add_finite_left, mul_finite_right, div_finite_left}
use Rattle.rounding.specs.Totals.{triangle_difference, triangle_le}
use Rattle.rounding.specs.ExactTerms.{average_difference, average_size, grid_difference, grid_size}
use Rattle.rounding.specs.AverageBound as A
use Rattle.rounding.specs.AverageBound.{average-bound, first_finite}
use Rattle.rounding.specs.GridBound as G
use Rattle.rounding.specs.GridBound.{grid-bound}

-- what the parts' totals A bound, the sizes B bound
with_sizes : (D K A B M : ℕ) → D ≤ K * A + M → A ≤ B → D ≤ K * B + M
with_sizes D K A B M h l = omega (arith, mul-le-mul_left K l)

-- Asked of the sizes: only that the kernel's first number is at most 1.
pub average-within : (c s c' s' : ℕ → ℕ → Float) (factor : ℕ → Float) (N : ℕ) → N ≤ 2700
    → TableFits c → TableFits s → TableFits c' → TableFits s' → LineFits factor → AtMostOne (c' 0 0)
    → T (finite (average c s c' s' factor N)) → AverageWithin c s c' s' factor N (average c s c' s' factor N)
unfolding AverageWithin one_in_units
average-within c s c' s' factor N h fc fs fc' fs' ff small t =
    subst (λ (d : ℕ). d * 2 ^ 53 ≤ average_relative N * sizes + absolute)
    (sym (abs_difference
    (difference_sub (difference_scale (difference_mul (exact_difference binary64 v) (exact_difference binary64 (c' 0 0))) one_in_units)
    (triangle_difference (average_pair c s c' s' factor) p q (average_difference c s c' s' factor) (suc N)))))
    (with_sizes (dist (positive_product binary64 v (c' 0 0) * one_in_units + Q) (negative_product binary64 v (c' 0 0) * one_in_units + P) * 2 ^ 53)
    (average_relative N) (P + Q) sizes absolute
    (average-bound binary64 c s c' s' factor fc fs fc' fs' ff (omega (arith, average_room N h)) N F (average_relative N) (average_absolute factor N)
    (largest_one factor (suc N)) (λ n l. parts_le (factor n) F (largest_most factor (suc N) n l)) (parts_le (c' 0 0) one_in_units small) first t
    (average_room N h) guard_positive (average_roundings N h) (average_relative_le N h) (average_halves factor N))
    (triangle_le p q (average_pair_size c s c' s' factor) (average_size c s c' s' factor) (suc N)))
  where
    v : Float
    v = average c s c' s' factor N

    p : ℕ → ℕ → ℕ
    p = A.positive_pair binary64 c s c' s' factor

    q : ℕ → ℕ → ℕ
    q = A.negative_pair binary64 c s c' s' factor

    P : ℕ
    P = triangle_total p (suc N)

    Q : ℕ
    Q = triangle_total q (suc N)

    F : ℕ
    F = largest_factor factor (suc N)

    sizes : ℕ
    sizes = triangle_total (average_pair_size c s c' s' factor) (suc N)

    absolute : ℕ
    absolute = average_absolute factor N * one_in_units * 2 ^ 53

    -- the kernel's first number is finite, as the first summand is
    first : T (finite (c' 0 0))
    first =
        mul_finite_right binary64 (c 0 0) (c' 0 0)
        (add_finite_left binary64 (c 0 0 ⊗ c' 0 0) (s 0 0 ⊗ s' 0 0)
        (mul_finite_right binary64 (factor 0) (c 0 0 ⊗ c' 0 0 ⊕ s 0 0 ⊗ s' 0 0)
        (first_finite binary64 (average_summand c s c' s' factor) N
        (div_finite_left binary64 (triangle_sum binary64 (average_summand c s c' s' factor) (suc N)) (c' 0 0) t))))

-- Asked of the sizes: that c, s, the cosines and the sines of this sum are at most 1; nothing of factors and Legendre functions.
pub grid-within : (P : ℕ → ℕ → Float) (factor : ℕ → Float) (c s : ℕ → ℕ → Float) (cos sin : ℕ → Float) (N : ℕ) → N ≤ 2700
    → TableFits P → LineFits factor → TableFits c → TableFits s → LineFits cos → LineFits sin
    → TableAtMostOne N c → TableAtMostOne N s → LineAtMostOne N cos → LineAtMostOne N sin
    → T (finite (grid_value P factor c s cos sin N)) → GridWithin P factor c s cos sin N (grid_value P factor c s cos sin N)
unfolding GridWithin one_in_units
grid-within P factor c s cos sin N h fP ff fc fs fo fi sc ss so si t =
    subst (λ (d : ℕ). d * 2 ^ 53 ≤ grid_relative N * sizes + absolute)
    (sym (abs_difference
    (difference_sub (difference_scale (exact_difference binary64 v) S)
    (triangle_difference (grid_pair P factor c s cos sin) p q (grid_difference P factor c s cos sin) (suc N)))))
    (with_sizes (dist (positive_part binary64 v * S + triangle_total q (suc N)) (negative_part binary64 v * S + triangle_total p (suc N)) * 2 ^ 53)
    (grid_relative N) (triangle_total p (suc N) + triangle_total q (suc N)) sizes absolute
    (grid-bound binary64 P factor c s cos sin fP ff fc fs fo fi N
    (λ n m l k. parts_le (c n m) one_in_units (sc n m (le_of_suc-le-suc l) k)) (λ n m l k. parts_le (s n m) one_in_units (ss n m (le_of_suc-le-suc l) k))
    (λ m l. parts_le (cos m) one_in_units (so m (le_of_suc-le-suc l))) (λ m l. parts_le (sin m) one_in_units (si m (le_of_suc-le-suc l)))
    (grid_room N h) (grid_relative N) (grid_absolute N) t guard_positive (grid_roundings N h) (grid_halves N h))
    (triangle_le p q (grid_pair_size P factor c s cos sin) (grid_size P factor c s cos sin) (suc N)))
  where
    v : Float
    v = grid_value P factor c s cos sin N

    S : ℕ
    S = one_in_units * one_in_units * one_in_units

    p : ℕ → ℕ → ℕ
    p = G.positive_pair binary64 P factor c s cos sin

    q : ℕ → ℕ → ℕ
    q = G.negative_pair binary64 P factor c s cos sin

    sizes : ℕ
    sizes = triangle_total (grid_pair_size P factor c s cos sin) (suc N)

    absolute : ℕ
    absolute = grid_absolute N * S * 2 ^ 53
