-- Sums over lines, triangles and columns of a table with the entries (n, m), m ≤ n. A `Sum` is computed: rounded after every addition, in
-- the stated order. A `Total` is exact. Definitions only.
use Rattle.std.specs.Prelude.{false, cond, ℕ, zero, suc, ◌+◌, ℤ, pos, ◌+ℤ◌, leb, Float}
use Rattle.std.specs.Float.{fin, Format}
use Rattle.std.specs.Float.Ieee.{add}

-- +0.0
abbrev pub zero⁺ : Float
zero⁺ = fin false 0 (pos 0)

-- ---- computed
-- t 0, t 1 .. t (k - 1) added to `from`, one after the other
unfoldable pub running_sum : Format → (ℕ → Float) → ℕ → Float → Float
running_sum f t zero from = from
running_sum f t (suc k) from = add f (running_sum f t k from) (t k)

-- the degrees 0 .. n - 1, degree by degree from +0.0, the orders of a degree rising
unfoldable pub triangle_sum : Format → (ℕ → ℕ → Float) → ℕ → Float
unfolding running_sum
triangle_sum f t zero = zero⁺
triangle_sum f t (suc n) = running_sum f (t n) (suc n) (triangle_sum f t n)

-- the order m over the degrees below n, rising from +0.0: degree n adds t n m if it has an order m
unfoldable pub column_sum : Format → (ℕ → ℕ → Float) → ℕ → ℕ → Float
column_sum f t zero m = zero⁺
column_sum f t (suc n) m = cond (leb m n) (add f (column_sum f t n m) (t n m)) (column_sum f t n m)

-- ---- exact
-- u 0 + u 1 + .. + u (k - 1)
unfoldable pub line_total : (ℕ → ℕ) → ℕ → ℕ
line_total u zero = 0
line_total u (suc k) = line_total u k + u k

-- over the degrees below n and all their orders
unfoldable pub triangle_total : (ℕ → ℕ → ℕ) → ℕ → ℕ
unfolding line_total
triangle_total u zero = 0
triangle_total u (suc n) = triangle_total u n + line_total (u n) (suc n)

-- the same two for integers
unfoldable pub line_total_ℤ : (ℕ → ℤ) → ℕ → ℤ
line_total_ℤ u zero = pos 0
line_total_ℤ u (suc k) = line_total_ℤ u k +ℤ u k

unfoldable pub triangle_total_ℤ : (ℕ → ℕ → ℤ) → ℕ → ℤ
unfolding line_total_ℤ
triangle_total_ℤ u zero = pos 0
triangle_total_ℤ u (suc n) = triangle_total_ℤ u n +ℤ line_total_ℤ (u n) (suc n)
