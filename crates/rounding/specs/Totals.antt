-- Exact totals over a triangle: of integers by their parts, and of sizes. Assumes nothing.
use Rattle.std.specs.Prelude.{ℕ, zero, suc, ◌+◌, ◌≤◌, ℤ}
use Rattle.std.proofs.Common.{le_refl, arith}
use Rattle.rounding.specs.Integers.{Difference, difference_nat, difference_add}
use Rattle.rounding.specs.Sums.{line_total, triangle_total, line_total_ℤ, triangle_total_ℤ}

line_difference : (z : ℕ → ℤ) (p q : ℕ → ℕ) → ((m : ℕ) → Difference (z m) (p m) (q m)) → (k : ℕ) → Difference (line_total_ℤ z k) (line_total p k) (line_total q k)
unfolding line_total_ℤ line_total
line_difference z p q each zero = difference_nat 0
line_difference z p q each (suc k) = difference_add (line_difference z p q each k) (each k)

-- a total of differences is the difference of the totals
pub triangle_difference : (z : ℕ → ℕ → ℤ) (p q : ℕ → ℕ → ℕ) → ((n m : ℕ) → Difference (z n m) (p n m) (q n m)) → (n : ℕ)
    → Difference (triangle_total_ℤ z n) (triangle_total p n) (triangle_total q n)
unfolding triangle_total_ℤ triangle_total
triangle_difference z p q each zero = difference_nat 0
triangle_difference z p q each (suc n) = difference_add (triangle_difference z p q each n) (line_difference (z n) (p n) (q n) (each n) (suc n))

line_le : (p q r : ℕ → ℕ) → ((m : ℕ) → p m + q m ≤ r m) → (k : ℕ) → line_total p k + line_total q k ≤ line_total r k
unfolding line_total
line_le p q r each zero = le_refl 0
line_le p q r each (suc k) = omega (arith, line_le p q r each k, each k)

-- two totals together are at most a third's, if their entries are
pub triangle_le : (p q r : ℕ → ℕ → ℕ) → ((n m : ℕ) → p n m + q n m ≤ r n m) → (n : ℕ) → triangle_total p n + triangle_total q n ≤ triangle_total r n
unfolding triangle_total
triangle_le p q r each zero = le_refl 0
triangle_le p q r each (suc n) = omega (arith, triangle_le p q r each n, line_le (p n) (q n) (r n) (each n) (suc n))
