-- Sums of the columns of a triangle, one for each order: their approximations, and that the columns' totals add up to the triangle's. Assumes nothing.
use Rattle.std.specs.Prelude.{◌≡◌, Bool, not, leb, Float}
use Rattle.std.proofs.Math.Path.{refl, ap₂}
use Rattle.std.proofs.Common.{ap, ◌∙◌, le_refl, leb→le}
use Rattle.std.proofs.Math.Bool.{true, false, cond}
use Prim.Native.Nat.{ℕ, zero, suc, ◌+◌, ◌-◌, ◌*◌, ◌^◌, ◌≤◌, ◌<◌}
use native.Mathlib.Omega.{arith}
use Rattle.std.proofs.Math.Dec.{T, nleb→lt}
use Rattle.std.specs.Float.{Format}
use Rattle.std.specs.Float.Ieee.{prec, add}
use Rattle.std.specs.Float.Ieee.Scale.{finite}
use Rattle.rounding.specs.FiniteOperands.{add_finite_left, add_finite_right}
use Rattle.rounding.specs.Approximation.{Approximates, guard, approximates_add, weaken, restated}
use Rattle.rounding.specs.RunningSums.{approximates_zero, later}
use Rattle.rounding.specs.Sums.{column_sum, line_total, triangle_total}

-- the exact total of the order m over the degrees below n
unfoldable pub column_total : (ℕ → ℕ → ℕ) → ℕ → ℕ → ℕ
column_total u zero m = 0
column_total u (suc n) m = cond (leb m n) (column_total u n m + u n m) (column_total u n m)

module _ {f : Format} {s k H : ℕ} (t : ℕ → ℕ → Float) (p q : ℕ → ℕ → ℕ) where
  pub approximates_column : (n m : ℕ) → ((i : ℕ) → i < n → m ≤ i → T (finite (t i m)) → Approximates f s (t i m) (p i m) (q i m) k H)
      → k + n * (guard + 1) ≤ 2 ^ prec f
      → T (finite (column_sum f t n m)) → Approximates f s (column_sum f t n m) (column_total p n m) (column_total q n m) (k + n * (guard + 1)) (n * H)
  unfolding column_sum column_total
  approximates_column zero m each h b = weaken (k + 0 * (guard + 1)) (0 * H) (omega arith) (omega arith) (approximates_zero s)
  approximates_column (suc n) m each h b = go (leb m n) (leb→le m n) (approximates_column n m (λ i l. each i (later l)) (omega arith)) b
    where
      go : (x : Bool) → (T x → m ≤ n) → (T (finite (column_sum f t n m))
          → Approximates f s (column_sum f t n m) (column_total p n m) (column_total q n m) (k + n * (guard + 1)) (n * H))
          → T (finite (cond x (add f (column_sum f t n m) (t n m)) (column_sum f t n m)))
          → Approximates f s (cond x (add f (column_sum f t n m) (t n m)) (column_sum f t n m)) (cond x (column_total p n m + p n m) (column_total p n m))
          (cond x (column_total q n m + q n m) (column_total q n m)) (k + suc n * (guard + 1)) (suc n * H)
      go true w ih b =
          restated
          (approximates_add (omega arith) (ih (add_finite_left f (column_sum f t n m) (t n m) b))
          (weaken (k + n * (guard + 1)) H (omega arith) (le_refl H) (each n (le_refl (suc n)) (w tt) (add_finite_right f (column_sum f t n m) (t n m) b))) b)
          refl refl (omega arith) (omega arith)
      go false w ih b = weaken (k + suc n * (guard + 1)) (suc n * H) (omega arith) (omega arith) (ih b)

-- ---- laws of a line's total
pub line_equal : (u v : ℕ → ℕ) → ((m : ℕ) → u m ≡ v m) → (M : ℕ) → line_total u M ≡ line_total v M
unfolding line_total
line_equal u v h zero = refl
line_equal u v h (suc M) = ap₂ (λ (x y : ℕ). x + y) (line_equal u v h M) (h M)

line_zero : (M : ℕ) → line_total (λ m. 0) M ≡ 0
unfolding line_total
line_zero zero = refl
line_zero (suc M) = omega (arith, line_zero M)

line-add : (u v : ℕ → ℕ) (M : ℕ) → line_total (λ m. u m + v m) M ≡ line_total u M + line_total v M
unfolding line_total
line-add u v zero = refl
line-add u v (suc M) = omega (arith, line-add u v M)

-- ---- the columns' totals add up to the triangle's
module _ (u : ℕ → ℕ → ℕ) (n : ℕ) where
  -- degree n's entry of order m, 0 where it has none
  entry : ℕ → ℕ
  entry m = cond (leb m n) (u n m) 0

  entry_inside : (m : ℕ) → m ≤ n → entry m ≡ u n m
  unfolding entry
  entry_inside m h = go (leb m n) (nleb→lt m n)
    where
      go : (x : Bool) → (T (not x) → n < m) → cond x (u n m) 0 ≡ u n m
      go true k = refl
      go false k = omega (arith, k tt)

  entry_outside : (m : ℕ) → n < m → entry m ≡ 0
  unfolding entry
  entry_outside m h = go (leb m n) (leb→le m n)
    where
      go : (x : Bool) → (T x → m ≤ n) → cond x (u n m) 0 ≡ 0
      go true k = omega (arith, k tt)
      go false k = refl

  entries_inside : (M : ℕ) → M ≤ suc n → line_total entry M ≡ line_total (u n) M
  unfolding line_total
  entries_inside zero h = refl
  entries_inside (suc M) h = ap₂ (λ (x y : ℕ). x + y) (entries_inside M (omega arith)) (entry_inside M (omega arith))

  entries : (d : ℕ) → line_total entry (d + suc n) ≡ line_total (u n) (suc n)
  entries zero = ap (λ (x : ℕ). line_total entry x) (none (suc n)) ∙ entries_inside (suc n) (le_refl (suc n))
    where
      none : (x : ℕ) → 0 + x ≡ x
      none x = omega arith
  entries (suc d) = ap (λ (x : ℕ). line_total entry x) (one d (suc n)) ∙ last ∙ entries d
    where
      one : (d x : ℕ) → suc d + x ≡ suc (d + x)
      one d x = omega arith

      step : line_total entry (suc (d + suc n)) ≡ line_total entry (d + suc n) + entry (d + suc n)
      step = unfold line_total in refl

      last : line_total entry (suc (d + suc n)) ≡ line_total entry (d + suc n)
      last = omega (arith, step, entry_outside (d + suc n) (omega arith))

  column_step : (m : ℕ) → column_total u (suc n) m ≡ column_total u n m + entry m
  unfolding column_total entry
  column_step m = go (leb m n)
    where
      go : (x : Bool) → cond x (column_total u n m + u n m) (column_total u n m) ≡ column_total u n m + cond x (u n m) 0
      go true = refl
      go false = omega arith

pub columns_triangle : (u : ℕ → ℕ → ℕ) (n M : ℕ) → n ≤ M → line_total (column_total u n) M ≡ triangle_total u n
unfolding triangle_total
columns_triangle u zero M h = line_equal (column_total u zero) (λ m. 0) (λ m. unfold column_total in refl) M ∙ line_zero M
columns_triangle u (suc n) M h =
    line_equal (column_total u (suc n)) (λ m. column_total u n m + entry u n m) (column_step u n) M
    ∙ line-add (column_total u n) (entry u n) M
    ∙ ap₂ (λ (x y : ℕ). x + y) (columns_triangle u n M (omega arith)) (ap (λ (x : ℕ). line_total (entry u n) x) back ∙ entries u n (M - suc n))
  where
    back : M ≡ M - suc n + suc n
    back = omega arith

-- ---- a column's total times a factor of its own is the total of the terms times that factor
module _ (p q p' q' : ℕ → ℕ → ℕ) (x y x' y' : ℕ → ℕ) where
  -- two columns, each with a positive and a negative part, times their factors
  unfoldable pub combined : ℕ → ℕ → ℕ
  combined n m = p n m * x m + q n m * y m + (p' n m * x' m + q' n m * y' m)

  pub columns_combined : (n m : ℕ) → column_total p n m * x m + column_total q n m * y m + (column_total p' n m * x' m + column_total q' n m * y' m)
      ≡ column_total combined n m
  unfolding column_total combined
  columns_combined zero m = omega arith
  columns_combined (suc n) m = go (leb m n) (columns_combined n m)
    where
      go : (b : Bool) → column_total p n m * x m + column_total q n m * y m + (column_total p' n m * x' m + column_total q' n m * y' m) ≡ column_total combined n m
          → cond b (column_total p n m + p n m) (column_total p n m) * x m + cond b (column_total q n m + q n m) (column_total q n m) * y m
          + (cond b (column_total p' n m + p' n m) (column_total p' n m) * x' m + cond b (column_total q' n m + q' n m) (column_total q' n m) * y' m)
          ≡ cond b (column_total combined n m + (p n m * x m + q n m * y m + (p' n m * x' m + q' n m * y' m))) (column_total combined n m)
      go true e = omega arith
      go false e = e
