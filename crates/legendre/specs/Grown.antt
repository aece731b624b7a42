-- The tables that `new` and `grow` leave in a list, whatever it held: what `grow` adds to the table of a lower degree makes the table of the higher one, and
-- each table is the front of every larger one. Assumes nothing.
use Rattle.std.specs.Prelude.{◌≡◌, refl, List, ℕ, ◌+◌, ◌-◌, ◌≤◌, ◌<◌, length, take, Float}
use Rattle.std.proofs.Math.Path.{sym, ap}
use Rattle.std.proofs.Common.{◌∙◌, ⊎_elim, zero-add, add-sub_of_le, eq-zero-or-pos, arith}
use Rattle.storage.specs.Fill.{fill, length-fill, fill_none, fill_front, fill_join}
use Rattle.storage.specs.Filled.{Filled, filled, filled_front}
use Rattle.storage.specs.Triangle.{table_size, along, rows_from, row_start_monotone}

-- d with the table of f up to degree N at its front
abbrev pub made : (ℕ → ℕ → Float) → ℕ → List Float → List Float
made f N d = fill 0 (along f) (table_size N) d

-- d with the rows of f above degree n and up to degree N where a table up to N has them, behind the rows up to n; as it is where n is no less than N
unfoldable pub grown : (ℕ → ℕ → Float) → ℕ → ℕ → List Float → List Float
grown f n N d = fill (table_size n) (rows_from f (n + 1)) (table_size N - table_size n) d

module _ (f : ℕ → ℕ → Float) where
  pub length-grown : (n N : ℕ) (d : List Float) → length (grown f n N d) ≡ length d
  unfolding grown
  length-grown n N d = length-fill (table_size n) (rows_from f (n + 1)) (table_size N - table_size n) d

  pub grown_rows : (n N : ℕ) {start : ℕ} {d l : List Float} → start ≡ table_size n → Filled start (rows_from f (n + 1)) (table_size N - start) d l
      → l ≡ grown f n N d
  unfolding grown
  grown_rows n N {start} {d} e r = r.is ∙ ap (λ (k : ℕ). fill k (rows_from f (n + 1)) (table_size N - k) d) e

  pub grown_none : (n N : ℕ) (d : List Float) → N ≤ n → d ≡ grown f n N d
  unfolding grown
  grown_none n N d h =
      let e : table_size N - table_size n ≡ 0 = omega (arith, row_start_monotone (N + 1) (n + 1) (omega arith)) in
      sym (fill_none (table_size n) (rows_from f (n + 1)) d) ∙ ap (λ (k : ℕ). fill (table_size n) (rows_from f (n + 1)) k d) (sym e)

  grown_more : (n N : ℕ) (d : List Float) → n ≤ N → grown f n N (made f n d) ≡ made f N d
  unfolding grown rows_from
  grown_more n N d h =
      let size = table_size n in
      let rest = table_size N - size in
      ap (λ (k : ℕ). fill k (rows_from f (n + 1)) rest (made f n d)) (sym (zero-add size))
      ∙ fill_join 0 (along f) (rows_from f (n + 1)) size rest d (λ i b. refl)
      ∙ ap (λ (k : ℕ). fill 0 (along f) k d) (add-sub_of_le (row_start_monotone (n + 1) (N + 1) (omega arith)))

  made_less : (n N : ℕ) (d : List Float) → N ≤ n → d ≡ made f n d → d ≡ made f N d
  made_less n N d h e =
      let less = row_start_monotone (N + 1) (n + 1) (omega arith) in
      let again =
      filled_front (along f) (filled 0 (along f) (table_size n) d e) (filled 0 (along f) (table_size N) d refl) less (λ i b. refl) (λ i b c. refl) in
      e ∙ sym again.is

  -- a list that holds the table up to n, grown up to N, holds the table up to N
  pub grown_made : (n N : ℕ) (d : List Float) → d ≡ made f n d → grown f n N d ≡ made f N d
  grown_made n N d e =
      ⊎_elim
      (λ (z : N - n ≡ 0). sym (grown_none n N d (omega arith)) ∙ made_less n N d (omega arith) e)
      (λ (p : 0 < N - n). ap (grown f n N) e ∙ grown_more n N d (omega arith))
      (eq-zero-or-pos (N - n))

  -- the table up to N is the front of the table up to M, in whatever lists
  pub made_front : (N M : ℕ) (d d' : List Float) → N ≤ M → table_size N ≤ length d → table_size N ≤ length d'
      → take (table_size N) (made f M d') ≡ take (table_size N) (made f N d)
  made_front N M d d' h l l' =
      fill_front (along f) (table_size N) (table_size M) d d' (row_start_monotone (N + 1) (M + 1) (omega arith)) l l'
