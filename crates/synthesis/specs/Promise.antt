-- What `grid` promises of its answer, its output and its working list, and demand 3 for every value. Assumes nothing.
use Rattle.std.specs.Prelude.{◌≡◌, Bool, List, ℕ, ◌+◌, ◌*◌, ◌≤◌, ◌<◌, length, drop, Float, Ok, Result, ⊤}
use Rattle.std.proofs.Math.Path.{refl, ap, subst}
use Rattle.std.proofs.Common.{sym, ◌∙◌, zero-add, arith}
use Rattle.std.proofs.Math.Nat.{mul-le-mul_right}
use Rattle.std.proofs.Math.Dec.{T}
use Rattle.std.proofs.Math.ListN.{get_or}
use Rattle.std.specs.Float.Ieee.{nan, binary64, fits}
use Rattle.std.specs.Float.Ieee.Fits.{mul-fits}
use Rattle.std.specs.Float.Ieee.Scale.{finite}
use Rattle.refusal.specs.Numbers.{after, behind}
use Rattle.storage.specs.Elements.{from, from_zero}
use Rattle.storage.specs.Fill.{fill, length-fill, drop-fill}
use Rattle.storage.specs.Filled.{Filled, filled, filled_in, filled_before}
use Rattle.storage.specs.Rectangle.{by_rows, by_rows_same, by_rows_at}
use Rattle.storage.specs.Triangle.{table_size, cells, along}
use Rattle.recursion.specs.Recursion.{a_cell, b_cell, p_cell}
use Rattle.rounding.specs.Margins.{LineFits, GridWithin}
use Rattle.rounding.proofs.Theorems.{grid-within}
use Rattle.legendre.specs.Directions.{cosines, sines, legendre_row}
use Rattle.recursion.specs.Tables.{with_tables}
use Rattle.synthesis.specs.Grid.{grid_cell, SizesAtMostOne, work_size, grid_check}
use Rattle.synthesis.specs.Rows.{rows_value, rows_same, rows_are}
use Rattle.synthesis.specs.Checks.{accepted}
use Rattle.refusal.specs.declared.Refusal.{Refusal}

-- every number is a double
abbrev pub Doubles : List Float → Type 0
Doubles l = (k : ℕ) → T (fits binary64 (get_or l k nan))

module _ (factor : ℕ → Float) (lats c s trig : List Float) (N rows L : ℕ) where
  -- what the passes of an accepted call make of the working list w and the output o
  pub record Made (w w' o o' : List Float) : Type 0 where
    pub values : Filled 0 (by_rows (grid_cell factor lats c s trig N) L) (rows * L) o o'
    pub rest : drop (work_size N) w' ≡ drop (work_size N) w
    pub long : length w' ≡ length w

  -- the rows by the tables and factors as they stand in lists are the grid's
  pub made : {w w' o o' : List Float} (lb f : List Float) → w' ≡ with_tables N w → work_size N ≤ length w
      → ((k : ℕ) → k < table_size N → get_or lb k nan ≡ get_or w' (table_size N + k) nan) → ((n : ℕ) → n ≤ N → get_or f n nan ≡ factor n)
      → Filled 0 (by_rows (rows_value (from 0 w' nan) (from 0 lb nan) (from 0 f nan) lats c s trig N) L) (rows * L) o o' → Made w w' o o'
  unfolding with_tables
  made {w} {w'} lb f e room eb ef out =
      let T = table_size N in
      let w₁ = fill 0 (along a_cell) T w in
      let two = filled T (along b_cell) T w₁ e in
      let l = length-fill 0 (along a_cell) T w in
      record {
        values =
            by_rows_same _ _ L
            (λ i j.
            rows_same (from 0 w' nan) (from 0 lb nan) (from 0 f nan) (along a_cell) (along b_cell) factor c s trig N
            (λ k h. from_zero w' nan k ∙ filled_before k nan two h ∙ filled_in nan (filled 0 (along a_cell) T w refl) h (sym (zero-add k)) (omega arith))
            (λ k h. from_zero lb nan k ∙ eb k h ∙ filled_in nan two h refl (omega arith)) (λ n h. from_zero f nan n ∙ ef n h) lats i j
            ∙ cell i j)
            out;
        rest = ap (drop (work_size N)) e ∙ drop-fill T (along b_cell) T (work_size N) w₁ (omega arith) ∙ drop-fill 0 (along a_cell) T (work_size N) w (omega arith);
        long = two.long ∙ l;
      }
    where
      cell : (i j : ℕ) → rows_value (along a_cell) (along b_cell) factor lats c s trig N i j ≡ grid_cell factor lats c s trig N i j
      cell i j = rows_are factor lats c s trig N i j

  -- demand 3, for every row and longitude
  abbrev pub Within : Result ⊤ Refusal → List Float → Type 0
  Within x o' =
      (i j : ℕ) → x ≡ Ok tt → i < rows → j < L → T (finite (get_or o' (i * L + j) nan))
      → SizesAtMostOne N (cells c nan) (cells s nan) (cosines trig N j) (sines trig N j)
      → GridWithin (legendre_row lats i) factor (cells c nan) (cells s nan) (cosines trig N j) (sines trig N j) N (get_or o' (i * L + j) nan)

  pub within : {x : Result ⊤ Refusal} {o' : List Float} (lacks : Bool) (work : ℕ) (o : List Float) → LineFits factor → Doubles c → Doubles s → Doubles trig
      → x ≡ grid_check N (length c) (length s) rows (length lats) L (length trig) lacks work (length o)
      → o' ≡ after x (fill 0 (by_rows (grid_cell factor lats c s trig N) L) (rows * L) o) o → Within x o'
  unfolding grid_cell legendre_row p_cell cells cosines sines
  within {x} {o'} lacks work o ff dc ds dt e q i j d hi hj t small =
      let k = accepted N (length c) (length s) rows (length lats) L (length trig) lacks work (length o) (sym d ∙ e) in
      let F = grid_cell factor lats c s trig N in
      let all = fill 0 (by_rows F L) (rows * L) o in
      let full = filled 0 (by_rows F L) (rows * L) o (q ∙ ap (λ (y : Result ⊤ Refusal). after y all o) d) in
      let up = mul-le-mul_right L hi in
      let v : get_or o' (i * L + j) nan ≡ F i j = by_rows_at F L i j nan full hj (omega arith) k.room_out in
      subst (λ (y : Float). GridWithin (legendre_row lats i) factor (cells c nan) (cells s nan) (cosines trig N j) (sines trig N j) N y) (sym v)
      (grid-within (legendre_row lats i) factor (cells c nan) (cells s nan) (cosines trig N j) (sines trig N j) N k.tables.top
      (λ n m. mul-fits binary64 _ _) ff (λ n m. dc _) (λ n m. ds _) (λ m. dt _) (λ m. dt _)
      small.of_c small.of_s small.of_cos small.of_sin (subst (λ (y : Float). T (finite y)) v t))

  -- the five promises, from the answer and what stands in the two lists
  pub promised : {x : Result ⊤ Refusal} {o' : List Float} (lacks found : Bool) (w w' o : List Float) → LineFits factor → Doubles c → Doubles s → Doubles trig
      → x ≡ grid_check N (length c) (length s) rows (length lats) L (length trig) found (length w) (length o) → found ≡ lacks
      → o' ≡ after x (fill 0 (by_rows (grid_cell factor lats c s trig N) L) (rows * L) o) o → behind x (work_size N) w' ≡ behind x (work_size N) w → length w' ≡ length w
      → (x ≡ grid_check N (length c) (length s) rows (length lats) L (length trig) lacks (length w) (length o))
      × ((o' ≡ after x (fill 0 (by_rows (grid_cell factor lats c s trig N) L) (rows * L) o) o)
      × ((behind x (work_size N) w' ≡ behind x (work_size N) w) × ((length w' ≡ length w) × Within x o')))
  promised lacks found w w' o ff dc ds dt e l q b long =
      let same = e ∙ ap (λ (y : Bool). grid_check N (length c) (length s) rows (length lats) L (length trig) y (length w) (length o)) l in
      (same, (q, (b, (long, within lacks (length w) o ff dc ds dt same q))))
