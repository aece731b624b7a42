-- What `analysis` promises of its answer, its outputs and its working list. Assumes nothing.
use Rattle.std.specs.Prelude.{◌≡◌, true, List, ℕ, ◌+◌, ◌*◌, ◌≤◌, ◌<◌, length, drop, Float}
use Rattle.std.proofs.Math.Path.{refl, ap}
use Rattle.std.proofs.Common.{sym, ◌∙◌, le_refl, zero-add, arith}
use Rattle.std.proofs.Math.ListN.{get_or}
use Rattle.std.specs.Float.Ieee.{nan, binary64, eq}
use Rattle.number.specs.Float64.{◌⊗◌, zero64}
use Rattle.storage.specs.Elements.{zero_at, from, from_zero}
use Rattle.storage.specs.Fill.{fill, length-fill, drop-fill}
use Rattle.storage.specs.Filled.{Filled, filled, filled_in, filled_before, filled_same, filled_again}
use Rattle.storage.specs.Triangle.{idx, table_size, along, along_same, rows_at, idx-within}
use Rattle.recursion.specs.Recursion.{a_cell, b_cell, p_same}
use Rattle.legendre.specs.Directions.{row_sine, row_cosine, legendre_row}
use Rattle.recursion.specs.Tables.{with_tables}
use Rattle.rounding.specs.Sums.{zero⁺}
use Rattle.rounding.specs.SumSteps.{running_same}
use Rattle.analysis.specs.Analysis.{cosine_sum, sine_sum, row_weight, row_term, rows_sum, analysis_cell}
use Rattle.analysis.specs.Rows.{legendre_by}
use Rattle.legendre_analysis.specs.Division.{divided, divided_cell}

-- a degree whose factor equals 0 gets zeros, whatever the sums over the rows are
pub zero_factor : (factor : ℕ → Float) (weights lats : List Float) (sums : ℕ → ℕ → Float) (N n m : ℕ) → eq (factor n) zero64 ≡ true
    → analysis_cell factor weights lats sums N n m ≡ zero64
unfolding analysis_cell divided
zero_factor factor weights lats sums N n m e = rw e refl

module _ (values weights lats trig : List Float) (N : ℕ) where
  -- the sums over all rows, before the division
  abbrev pub all_rows : (sums : ℕ → ℕ → Float) → ℕ → ℕ → Float
  all_rows sums = rows_sum (row_weight weights N) (legendre_row lats) sums (N + 1)

  -- what the rows make of the working list w and the outputs c and s
  pub record Summed (w w' c c' s s' : List Float) : Type 0 where
    pub of_c : Filled 0 (along (all_rows (cosine_sum values trig N))) (table_size N) c c'
    pub of_s : Filled 0 (along (all_rows (sine_sum values trig N))) (table_size N) s s'
    pub rest : drop (3 * table_size N) w' ≡ drop (3 * table_size N) w
    pub long : length w' ≡ length w

  -- and what the whole call does
  pub record Made (factor : ℕ → Float) (w w' c c' s s' : List Float) : Type 0 where
    pub of_c : Filled 0 (along (analysis_cell factor weights lats (cosine_sum values trig N) N)) (table_size N) c c'
    pub of_s : Filled 0 (along (analysis_cell factor weights lats (sine_sum values trig N) N)) (table_size N) s s'
    pub rest : drop (3 * table_size N) w' ≡ drop (3 * table_size N) w
    pub long : length w' ≡ length w

  -- ---- the tables as they stand in lists are those of `Legendre::new`
  module _ (a b : List Float) (ea : (k : ℕ) → k < table_size N → get_or a k nan ≡ along a_cell k)
      (eb : (k : ℕ) → k < table_size N → get_or b k nan ≡ along b_cell k) where
    legendre_is : (i n m : ℕ) → m ≤ n → n ≤ N → legendre_by a b lats i n m ≡ legendre_row lats i n m
    unfolding legendre_by legendre_row
    legendre_is i n m h l =
        p_same (from 0 a nan) (from 0 b nan) (along a_cell) (along b_cell) (row_sine lats i) (row_cosine lats i) n m h
        (λ j g q. (
          from_zero a nan (idx j m) ∙ ea (idx j m) (idx-within j m N (omega arith) (omega arith)),
          from_zero b nan (idx j m) ∙ eb (idx j m) (idx-within j m N (omega arith) (omega arith)),
        ))

    rows_are : (sums : ℕ → ℕ → Float) (n m : ℕ) → m ≤ n → n ≤ N → rows_sum (row_weight weights N) (legendre_by a b lats) sums (N + 1) n m ≡ all_rows sums n m
    unfolding rows_sum row_term
    rows_are sums n m h l =
        running_same binary64 (row_term (row_weight weights N) (legendre_by a b lats) sums n m) (row_term (row_weight weights N) (legendre_row lats) sums n m)
        (N + 1) zero⁺
        (λ i g. ap (λ (v : Float). row_weight weights N i ⊗ v ⊗ sums i m) (legendre_is i n m h l))

    rows_filled : (sums : ℕ → ℕ → Float) {d d₁ l : List Float} → Filled 0 zero_at (table_size N) d d₁
        → Filled 0 (along (rows_sum (row_weight weights N) (legendre_by a b lats) sums (N + 1))) (table_size N) d₁ l
        → Filled 0 (along (all_rows sums)) (table_size N) d l
    rows_filled sums z r =
        filled_same (along (all_rows sums)) (filled_again z r (le_refl (table_size N)))
        (along_same (rows_sum (row_weight weights N) (legendre_by a b lats) sums (N + 1)) (all_rows sums) N (rows_are sums))

  pub summed : {w w' c c₁ c' s s₁ s' : List Float} (lb : List Float) → w' ≡ with_tables N w → 3 * table_size N ≤ length w
      → ((k : ℕ) → k < table_size N → get_or lb k nan ≡ get_or w' (table_size N + k) nan)
      → Filled 0 zero_at (table_size N) c c₁ → Filled 0 zero_at (table_size N) s s₁
      → Filled 0 (along (rows_sum (row_weight weights N) (legendre_by w' lb lats) (cosine_sum values trig N) (N + 1))) (table_size N) c₁ c'
      → Filled 0 (along (rows_sum (row_weight weights N) (legendre_by w' lb lats) (sine_sum values trig N) (N + 1))) (table_size N) s₁ s'
      → Summed w w' c c' s s'
  unfolding with_tables
  summed {w} {w'} lb e room eb zc zs rc rs =
      let T = table_size N in
      let w₁ = fill 0 (along a_cell) T w in
      let two = filled T (along b_cell) T w₁ e in
      let l = length-fill 0 (along a_cell) T w in
      let va : (k : ℕ) → k < T → get_or w' k nan ≡ along a_cell k =
      λ k h. filled_before k nan two h ∙ filled_in nan (filled 0 (along a_cell) T w refl) h (sym (zero-add k)) (omega arith) in
      let vb : (k : ℕ) → k < T → get_or lb k nan ≡ along b_cell k = λ k h. eb k h ∙ filled_in nan two h refl (omega arith) in
      record {
        of_c = rows_filled w' lb va vb (cosine_sum values trig N) zc rc;
        of_s = rows_filled w' lb va vb (sine_sum values trig N) zs rs;
        rest = ap (drop (3 * T)) e ∙ drop-fill T (along b_cell) T (3 * T) w₁ (omega arith) ∙ drop-fill 0 (along a_cell) T (3 * T) w (omega arith);
        long = two.long ∙ l;
      }

  -- ---- the division
  module _ (factor : ℕ → Float) where
    entries : (sums : ℕ → ℕ → Float) {d d₁ l : List Float} → Filled 0 (along (all_rows sums)) (table_size N) d d₁
        → Filled 0 (along (divided_cell factor d₁)) (table_size N) d₁ l → table_size N ≤ length d
        → Filled 0 (along (analysis_cell factor weights lats sums N)) (table_size N) d l
    unfolding divided_cell analysis_cell
    entries sums {d} {d₁} r q room =
        filled_same (along (analysis_cell factor weights lats sums N)) (filled_again r q (le_refl (table_size N)))
        (along_same (divided_cell factor d₁) (analysis_cell factor weights lats sums N) N
        (λ n m h b.
        ap (divided (factor n))
        (rows_at (all_rows sums) n m nan r h (sym (zero-add (idx n m))) (idx-within n m N h b) (omega (arith, idx-within n m N h b)))))

    pub made : {w w' c c₁ c' s s₁ s' : List Float} → Summed w w' c c₁ s s₁ → Filled 0 (along (divided_cell factor c₁)) (table_size N) c₁ c'
        → Filled 0 (along (divided_cell factor s₁)) (table_size N) s₁ s' → table_size N ≤ length c → table_size N ≤ length s → Made factor w w' c c' s s'
    made k qc qs hc hs = record {
      of_c = entries (cosine_sum values trig N) k.of_c qc hc;
      of_s = entries (sine_sum values trig N) k.of_s qs hs;
      rest = k.rest;
      long = k.long;
    }
