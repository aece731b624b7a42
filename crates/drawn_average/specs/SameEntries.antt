-- The margin of an average speaks of the entries of the one sum alone: kernels with the same entries there have the same margin. Assumes nothing.
use Rattle.std.specs.Prelude.{◌≡◌, List, ℕ, zero, suc, ◌+◌, ◌≤◌, ◌<◌, ℤ, ◌+ℤ◌, length, get_or, Float}
use Rattle.std.proofs.Math.Path.{refl}
use Rattle.std.proofs.Common.{sym, ap, ap₂, ◌∙◌, zero-add, arith}
use Rattle.std.specs.Float.{nan}
use Rattle.rounding.specs.Sums.{line_total, triangle_total, line_total_ℤ, triangle_total_ℤ}
use Rattle.rounding.specs.Margins.{average_term_c, average_term_s, average_pair, average_pair_size, AverageWithin}
use Rattle.storage.specs.Fill.{fill, fill_in}
use Rattle.storage.specs.Triangle.{cells, idx, along, table_size, idx-within, along-idx}

-- ---- totals of terms that agree
line_same : (t t' : ℕ → ℕ) (k : ℕ) → ((m : ℕ) → m < k → t m ≡ t' m) → line_total t k ≡ line_total t' k
unfolding line_total
line_same t t' zero e = refl
line_same t t' (suc k) e = ap₂ ◌+◌ (line_same t t' k (λ m h. e m (omega arith))) (e k (omega arith))

total_same : (t t' : ℕ → ℕ → ℕ) (n : ℕ) → ((i m : ℕ) → i < n → m ≤ i → t i m ≡ t' i m) → triangle_total t n ≡ triangle_total t' n
unfolding triangle_total
total_same t t' zero e = refl
total_same t t' (suc n) e =
    ap₂ ◌+◌ (total_same t t' n (λ i m h b. e i m (omega arith) b)) (line_same (t n) (t' n) (suc n) (λ m h. e n m (omega arith) (omega arith)))

line_same_ℤ : (t t' : ℕ → ℤ) (k : ℕ) → ((m : ℕ) → m < k → t m ≡ t' m) → line_total_ℤ t k ≡ line_total_ℤ t' k
unfolding line_total_ℤ
line_same_ℤ t t' zero e = refl
line_same_ℤ t t' (suc k) e = ap₂ ◌+ℤ◌ (line_same_ℤ t t' k (λ m h. e m (omega arith))) (e k (omega arith))

total_same_ℤ : (t t' : ℕ → ℕ → ℤ) (n : ℕ) → ((i m : ℕ) → i < n → m ≤ i → t i m ≡ t' i m) → triangle_total_ℤ t n ≡ triangle_total_ℤ t' n
unfolding triangle_total_ℤ
total_same_ℤ t t' zero e = refl
total_same_ℤ t t' (suc n) e =
    ap₂ ◌+ℤ◌ (total_same_ℤ t t' n (λ i m h b. e i m (omega arith) b)) (line_same_ℤ (t n) (t' n) (suc n) (λ m h. e n m (omega arith) (omega arith)))

-- ---- kernels that agree in the sum
module _ (c s k l k' l' : ℕ → ℕ → Float) (factor : ℕ → Float) (N : ℕ) (kc : (n m : ℕ) → n ≤ N → m ≤ n → k n m ≡ k' n m)
    (ks : (n m : ℕ) → n ≤ N → m ≤ n → l n m ≡ l' n m) where
  pair_same : (n m : ℕ) → n < suc N → m ≤ n → average_pair c s k l factor n m ≡ average_pair c s k' l' factor n m
  unfolding average_pair average_term_c average_term_s
  pair_same n m h b = rw (kc n m (omega arith) b, ks n m (omega arith) b) refl

  size_same : (n m : ℕ) → n < suc N → m ≤ n → average_pair_size c s k l factor n m ≡ average_pair_size c s k' l' factor n m
  unfolding average_pair_size average_term_c average_term_s
  size_same n m h b = rw (kc n m (omega arith) b, ks n m (omega arith) b) refl

  pub within_same : (v : Float) → AverageWithin c s k l factor N v → AverageWithin c s k' l' factor N v
  unfolding AverageWithin
  within_same v w =
      let first = kc 0 0 (omega arith) (omega arith) in
      let total = total_same_ℤ (average_pair c s k l factor) (average_pair c s k' l' factor) (suc N) pair_same in
      let size = total_same (average_pair_size c s k l factor) (average_pair_size c s k' l' factor) (suc N) size_same in
      rw (← first, ← total, ← size) w

-- ---- a table that was written to the front of a list, read by degree and order
pub table_cell : (F : ℕ → ℕ → Float) (L : ℕ) (d : List Float) (n m : ℕ) → n ≤ L → m ≤ n → table_size L ≤ length d
    → cells (fill 0 (along F) (table_size L) d) nan n m ≡ F n m
unfolding cells
table_cell F L d n m h b g =
    let k = idx-within n m L b h in
    ap (λ (i : ℕ). get_or (fill 0 (along F) (table_size L) d) i nan) (sym (zero-add (idx n m)))
    ∙ fill_in 0 (along F) (table_size L) (idx n m) d nan k (omega arith)
    ∙ along-idx F n m b
