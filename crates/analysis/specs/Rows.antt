-- The rows added one after the other to the entries. Assumes nothing.
use Rattle.std.specs.Prelude.{◌≡◌, List, ℕ, ◌+◌, ◌*◌, ◌≤◌, ◌<◌, length, Float}
use Rattle.std.proofs.Common.{sym, ap₂, ◌∙◌, le_refl, zero-add, arith}
use Rattle.std.proofs.Math.Path.{ap}
use Rattle.std.proofs.Math.ListN.{get_or}
use Rattle.std.specs.Float.Ieee.{nan, binary64, of_bits}
use Rattle.number.specs.Float64.{◌⊕◌, ◌⊗◌, ◌⊘◌, of_whole, two64}
use Rattle.storage.specs.Elements.{zero_at, from}
use Rattle.storage.specs.Filled.{Filled, filled_same, filled_again}
use Rattle.storage.specs.Triangle.{idx, table_size, along, along_same, rows_at, idx-within}
use Rattle.recursion.specs.Recursion.{p_cell}
use Rattle.legendre.specs.Directions.{row_sine, row_cosine}
use Rattle.rounding.specs.Sums.{zero⁺}
use Rattle.rounding.specs.SumSteps.{running_none, running_more, running_same}
use Rattle.fourier_analysis.specs.Longitudes.{term_from, sum_from, cosines_from, sines_from}
use Rattle.analysis.specs.Analysis.{longitudes_of, value_at, cosine_at, sine_at, cosine_term, sine_term, cosine_sum, sine_sum}
use Rattle.analysis.specs.Analysis.{row_weight, row_term, rows_sum}
use Rattle.legendre_analysis.specs.Degrees.{added_cell}

-- the lists that a row is worked out in, by their lengths, have room for the degrees and orders up to nmax
pub record RowRoom (nmax a b sectorals r even odd sums c s : ℕ) : Type 0 where
  pub top : nmax ≤ 2700
  pub of_a : table_size nmax ≤ a
  pub of_b : table_size nmax ≤ b
  pub of_sectorals : nmax < sectorals
  pub of_r : nmax < r
  pub of_even : nmax < even
  pub of_odd : nmax < odd
  pub of_sums : nmax + nmax + 1 < sums
  pub of_c : table_size nmax ≤ c
  pub of_s : table_size nmax ≤ s

-- lists that are written keep it, as they keep their lengths
pub room_kept : {nmax a b d r even odd sums c s r' even' odd' sums' c' s' : ℕ} → RowRoom nmax a b d r even odd sums c s
    → r' ≡ r → even' ≡ even → odd' ≡ odd → sums' ≡ sums → c' ≡ c → s' ≡ s → RowRoom nmax a b d r' even' odd' sums' c' s'
room_kept k er ee eo eu ec es = record {
  top = k.top;
  of_a = k.of_a;
  of_b = k.of_b;
  of_sectorals = k.of_sectorals;
  of_r = omega (arith, k.of_r);
  of_even = omega (arith, k.of_even);
  of_odd = omega (arith, k.of_odd);
  of_sums = omega (arith, k.of_sums);
  of_c = omega (arith, k.of_c);
  of_s = omega (arith, k.of_s);
}

-- P at row i, by the tables of the recursion as they stand in lists
unfoldable pub legendre_by : (a b lats : List Float) → ℕ → ℕ → ℕ → Float
legendre_by a b lats i = p_cell (from 0 a nan) (from 0 b nan) (row_sine lats i) (row_cosine lats i)

pub legendre_at : (a b lats : List Float) (i : ℕ) {t u : Float} → t ≡ row_sine lats i → u ≡ row_cosine lats i → (n m : ℕ)
    → p_cell (from 0 a nan) (from 0 b nan) t u n m ≡ legendre_by a b lats i n m
unfolding legendre_by
legendre_at a b lats i et eu n m = ap₂ (λ (x y : Float). p_cell (from 0 a nan) (from 0 b nan) x y n m) et eu

-- the weight of row i
pub row_weight_is : (weights : List Float) (N i L : ℕ) {w : Float} → L ≡ longitudes_of N → w ≡ get_or weights i nan ⊘ (two64 ⊗ of_whole L)
    → w ≡ row_weight weights N i
unfolding row_weight
row_weight_is weights N i L e h = h ∙ ap (λ (l : ℕ). get_or weights i nan ⊘ (two64 ⊗ of_whole l)) e

-- ---- the sums over the longitudes of row i are those of the definitions
module _ (values trig : List Float) where
  pub cosines_are : (N i m : ℕ) {at L : ℕ} → L ≡ longitudes_of N → at ≡ i * L → cosines_from values trig at L m ≡ cosine_sum values trig N i m
  unfolding cosines_from cosine_sum term_from cosine_term value_at cosine_at
  cosines_are N i m {at} {L} el ea =
      ap (λ (l : ℕ). sum_from values trig at (m * (l + l)) l) el
      ∙ ap (λ (x : ℕ). sum_from values trig x (m * (longitudes_of N + longitudes_of N)) (longitudes_of N)) (ea ∙ ap (λ (l : ℕ). i * l) el)
      ∙ running_same binary64 (term_from values trig (i * longitudes_of N) (m * (longitudes_of N + longitudes_of N))) (cosine_term values trig N i m)
      (longitudes_of N) zero⁺
      (λ j h. ap (λ (k : ℕ). value_at values N i j ⊗ get_or trig k nan) (omega arith))

  pub sines_are : (N i m : ℕ) {at L : ℕ} → L ≡ longitudes_of N → at ≡ i * L → sines_from values trig at L m ≡ sine_sum values trig N i m
  unfolding sines_from sine_sum term_from sine_term value_at sine_at
  sines_are N i m {at} {L} el ea =
      ap (λ (l : ℕ). sum_from values trig at (m * (l + l) + 1) l) el
      ∙ ap (λ (x : ℕ). sum_from values trig x (m * (longitudes_of N + longitudes_of N) + 1) (longitudes_of N)) (ea ∙ ap (λ (l : ℕ). i * l) el)
      ∙ running_same binary64 (term_from values trig (i * longitudes_of N) (m * (longitudes_of N + longitudes_of N) + 1)) (sine_term values trig N i m)
      (longitudes_of N) zero⁺
      (λ j h. ap (λ (k : ℕ). value_at values N i j ⊗ get_or trig k nan) (omega arith))

-- the same sums over the longitudes, said otherwise
pub added_by_lem : (weight : Float) (P : ℕ → ℕ → Float) (X Y : ℕ → Float) (N : ℕ) {c c' : List Float} → ((m : ℕ) → m < N + 1 → X m ≡ Y m)
    → Filled 0 (along (added_cell weight P X c)) (table_size N) c c' → Filled 0 (along (added_cell weight P Y c)) (table_size N) c c'
unfolding added_cell
added_by_lem weight P X Y N {c} e added =
    filled_same (along (added_cell weight P Y c)) added
    (along_same (added_cell weight P X c) (added_cell weight P Y c) N
    (λ n m h l. ap (λ (v : Float). get_or c (idx n m) nan ⊕ weight ⊗ P n m ⊗ v) (e m (omega arith))))

-- l is d with its entries replaced by the sums over the rows below i
module _ (weight : ℕ → Float) (P : ℕ → ℕ → ℕ → Float) (sums : ℕ → ℕ → Float) (N : ℕ) where
  abbrev pub SumsBelow : ℕ → (d l : List Float) → Type 0
  SumsBelow i d l = Filled 0 (along (rows_sum weight P sums i)) (table_size N) d l

  -- above row 0 they are clear
  pub sums_none : {l : List Float} → Filled 0 zero_at (table_size N) l l → SumsBelow 0 l l
  unfolding of_bits along rows_sum
  sums_none z = filled_same (along (rows_sum weight P sums 0)) z (λ k h. running_none binary64 _ zero⁺)

  -- with row i added
  pub sums_more : (i : ℕ) (w : Float) (Q : ℕ → ℕ → Float) (X : ℕ → Float) {d l l' : List Float} → SumsBelow i d l
      → Filled 0 (along (added_cell w Q X l)) (table_size N) l l' → w ≡ weight i → ((n m : ℕ) → Q n m ≡ P i n m) → ((m : ℕ) → X m ≡ sums i m)
      → table_size N ≤ length d → SumsBelow (i + 1) d l'
  unfolding added_cell rows_sum row_term
  sums_more i w Q X {d} {l} below row ew eq ex room =
      filled_same (along (rows_sum weight P sums (i + 1))) (filled_again below row (le_refl (table_size N)))
      (along_same (added_cell w Q X l) (rows_sum weight P sums (i + 1)) N
      (λ n m h b.
      let old = rows_at (rows_sum weight P sums i) n m nan below h (sym (zero-add (idx n m))) (idx-within n m N h b) (omega (arith, idx-within n m N h b)) in
      let q = eq n m in
      let v = ex m in
      let more = running_more binary64 (row_term weight P sums n m) i zero⁺ in
      cc))

  -- as many, said otherwise
  pub sums_to : {i j : ℕ} {d l : List Float} → SumsBelow i d l → i ≡ j → SumsBelow j d l
  sums_to below e = rw (← e) below
