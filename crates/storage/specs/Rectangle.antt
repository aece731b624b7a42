-- Rows of equal length, one after the other in a list. Assumes nothing.
use Rattle.std.specs.Prelude.{◌≡◌, List, ℕ, zero, suc, ◌+◌, ◌-◌, ◌*◌, ◌/◌, ◌%◌, ◌≤◌, ◌<◌, length, get_or}
use Rattle.std.proofs.Common.{sym, ◌∙◌, add_comm, zero-add, zero-lt-suc, div-lt_iff_lt-mul, mod-lt}
use Rattle.std.proofs.Math.Path.{ap, ap₂}
use Rattle.std.proofs.Math.Nat.{add-mul-div_right, div-eq_of_lt, mod-eq-sub-div-mul}
use native.Mathlib.Omega.{arith}
use Rattle.storage.specs.Filled.{Filled, filled_join, filled_to, filled_in, filled_same}

-- row after row, L elements in each: what stands at index k
unfoldable pub by_rows : {A : Type 0} → (ℕ → ℕ → A) → ℕ → ℕ → A
by_rows F L k = F (k / L) (k % L)

-- an index among rows is that of a row that has elements
some_element : (n L k : ℕ) → k < n * L → 0 < L
some_element n zero k h = absurd (omega arith)
some_element n (suc L) k h = zero-lt-suc L

module _ {A : Type 0} where
  pub by_row : (F : ℕ → ℕ → A) (L i j : ℕ) → j < L → by_rows F L (i * L + j) ≡ F i j
  unfolding by_rows
  by_row F L i j h = ap₂ F d (mod-eq-sub-div-mul (i * L + j) L ∙ ap (λ (x : ℕ). i * L + j - x * L) d ∙ less (i * L) j)
    where
      less : (x y : ℕ) → x + y - x ≡ y
      less x y = omega arith

      some : 0 < L
      some = omega arith

      d : (i * L + j) / L ≡ i
      d = ap (λ (x : ℕ). x / L) (add_comm (i * L) j) ∙ add-mul-div_right j i some ∙ ap (λ (x : ℕ). x + i) (div-eq_of_lt h) ∙ zero-add i

  module _ (F : ℕ → ℕ → A) (L i : ℕ) {k : ℕ} {d l : List A} where
    -- row i written after those before it
    pub by_rows_more : {at : ℕ} {l' : List A} → Filled 0 (by_rows F L) k d l → Filled at (F i) L l l' → k ≡ i * L → at ≡ k
        → Filled 0 (by_rows F L) ((i + 1) * L) d l'
    by_rows_more {at} r s e p =
        filled_to (filled_join r s (p ∙ sym (zero-add k)) (λ j h. ap (λ (x : ℕ). by_rows F L (x + j)) e ∙ by_row F L i j h)) (omega arith)

    -- what stands in row i at column j
    pub by_rows_at : (j : ℕ) (z : A) → Filled 0 (by_rows F L) k d l → j < L → i * L + j < k → k ≤ length d → get_or l (i * L + j) z ≡ F i j
    by_rows_at j z r h g b = filled_in z r g (sym (zero-add (i * L + j))) (omega arith) ∙ by_row F L i j h

  -- rows that agree element by element
  pub by_rows_same : (F G : ℕ → ℕ → A) (L : ℕ) {k : ℕ} {d l : List A} → ((i j : ℕ) → F i j ≡ G i j) → Filled 0 (by_rows F L) k d l
      → Filled 0 (by_rows G L) k d l
  unfolding by_rows
  by_rows_same F G L e r = filled_same (by_rows G L) r (λ k h. e (k / L) (k % L))

  -- the same where only the first n rows count
  pub by_rows_within : (F G : ℕ → ℕ → A) (n L : ℕ) {d l : List A} → ((i j : ℕ) → i < n → j < L → F i j ≡ G i j) → Filled 0 (by_rows F L) (n * L) d l
      → Filled 0 (by_rows G L) (n * L) d l
  unfolding by_rows
  by_rows_within F G n L e r =
      filled_same (by_rows G L) r
      (λ k h. let some = some_element n L k h in e (k / L) (k % L) ((div-lt_iff_lt-mul some).1 h) (mod-lt k some))
