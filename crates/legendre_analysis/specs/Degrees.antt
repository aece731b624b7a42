-- What one row adds to the entries, degree after degree. Assumes nothing.
use Rattle.std.specs.Prelude.{◌≡◌, refl, List, ℕ, ◌+◌, ◌≤◌, ◌<◌, length, Float}
use Rattle.std.proofs.Common.{sym, ◌∙◌, zero-add, arith}
use Rattle.std.proofs.Math.Path.{ap}
use Rattle.std.proofs.Math.ListN.{get_or}
use Rattle.std.specs.Float.Ieee.{nan}
use Rattle.number.specs.Float64.{◌⊕◌, ◌⊗◌}
use Rattle.storage.specs.Elements.{from, from_zero}
use Rattle.storage.specs.Filled.{Filled, filled_none, filled_same, filled_in, filled_after, filled_to}
use Rattle.storage.specs.Triangle.{row_start, idx, along, row_start_zero, rows_more}
use Rattle.recursion.specs.Recursion.{pmm, rescale, p_cell}
use Rattle.legendre.specs.Rows.{next_row, scaled_row, UpToRow, up_to_none, up_to_more, scaled_row_is}
use Rattle.fourier_analysis.specs.Longitudes.{first_of, second_of}

-- the entries of a degree, which start at index at, with a row's terms added: weight * P, where P is row n of q times the powers of u, before the
-- sum over the longitudes
unfoldable pub added_row : Float → ℕ → (q r : List Float) → (x : ℕ → Float) → List Float → ℕ → Float
added_row weight at q r x c m = get_or c (at + m) nan ⊕ weight ⊗ scaled_row q r m ⊗ x m

-- the entry (n, m) with a row's term added
unfoldable pub added_cell : Float → (P : ℕ → ℕ → Float) → (x : ℕ → Float) → List Float → ℕ → ℕ → Float
added_cell weight P x c n m = get_or c (idx n m) nan ⊕ weight ⊗ P n m ⊗ x m

-- l is d with the row's terms added to the entries of the degrees below n
abbrev pub AddedBelow : ℕ → Float → (P : ℕ → ℕ → Float) → (x : ℕ → Float) → (d l : List Float) → Type 0
AddedBelow n weight P x d l = Filled 0 (along (added_cell weight P x d)) (row_start n) d l

module _ (n : ℕ) (weight : Float) (P : ℕ → ℕ → Float) (x : ℕ → Float) (q r : List Float) {at : ℕ} {d l l' : List Float}
    (below : AddedBelow n weight P x d l) (row : Filled at (added_row weight at q r x l) (n + 1) l l')
    (pv : (m : ℕ) → m ≤ n → scaled_row q r m ≡ P n m) (start : at ≡ row_start n) where
  added_row_is : (m : ℕ) → m ≤ n → added_row weight at q r x l m ≡ added_cell weight P x d n m
  unfolding added_row added_cell
  added_row_is m h =
      let old = filled_after (idx n m) nan below (omega arith) in
      let z = ap (λ (i : ℕ). get_or l (i + m) nan) start in
      let v = pv m h in
      cc

  -- with those of degree n added
  added_more : AddedBelow (n + 1) weight P x d l'
  added_more =
      rows_more (added_cell weight P x d) n below
      (filled_same (added_cell weight P x d n) row (λ m h. added_row_is m (omega arith)))
      refl (start ∙ sym (zero-add (row_start n))) refl

-- the terms of the degrees below n are added to c and s, which were c₀ and s₀
pub record DegreesBelow (n at : ℕ) (t u weight : Float) (a b sums newer older c₀ s₀ c s : List Float) : Type 0 where
  pub rows : UpToRow (from 0 a nan) (from 0 b nan) t n at newer older
  pub of_c : AddedBelow n weight (p_cell (from 0 a nan) (from 0 b nan) t u) (first_of sums) c₀ c
  pub of_s : AddedBelow n weight (p_cell (from 0 a nan) (from 0 b nan) t u) (second_of sums) s₀ s

-- before degree 0
pub degrees_none : {t u weight : Float} {a b sums newer older c s : List Float} → DegreesBelow 0 0 t u weight a b sums newer older c s c s
degrees_none =
    let z = sym row_start_zero in record { rows = up_to_none; of_c = filled_to filled_none z; of_s = filled_to filled_none z }

-- as many, said otherwise
pub degrees_to : {n n' at : ℕ} {t u weight : Float} {a b sums newer older c₀ s₀ c s : List Float}
    → DegreesBelow n at t u weight a b sums newer older c₀ s₀ c s → n ≡ n' → DegreesBelow n' at t u weight a b sums newer older c₀ s₀ c s
degrees_to below e = rw (← e) below

-- the lists have room for degree n
pub record DegreeFits (n N : ℕ) (sectorals r newer older : List Float) : Type 0 where
  pub degree : n ≤ N
  pub of_sectorals : n < length sectorals
  pub of_r : n < length r
  pub of_newer : n ≤ length newer
  pub of_older : n < length older

-- with degree n added
module _ {n at N : ℕ} {t u weight : Float} {a b sums sectorals newer older r c₀ s₀ c s l c' s' : List Float} where
  pub degrees_more : {n' at' : ℕ} → DegreesBelow n at t u weight a b sums newer older c₀ s₀ c s → Filled 0 pmm (N + 1) sectorals sectorals
      → Filled 0 (rescale u) (N + 1) r r → DegreeFits n N sectorals r newer older
      → Filled 0 (next_row n at t (get_or sectorals n nan) a b newer older) (n + 1) older l
      → Filled at (added_row weight at l r (first_of sums) c) (n + 1) c c' → Filled at (added_row weight at l r (second_of sums) s) (n + 1) s s'
      → n' ≡ n + 1 → at' ≡ at + n + 1 → DegreesBelow n' at' t u weight a b sums l newer c₀ s₀ c' s'
  degrees_more {n'} {at'} below sectoral powers room q rc rs en ea =
      let P = p_cell (from 0 a nan) (from 0 b nan) t u in
      let rows =
      up_to_more below.rows a b (λ m g. sym (from_zero a nan (idx n m))) (λ m g. sym (from_zero b nan (idx n m)))
      (filled_in {j = n} nan sectoral (omega arith) (sym (zero-add n)) (omega arith)) (omega arith) (omega arith) q refl refl in
      let row : (m : ℕ) → m ≤ n → scaled_row l r m ≡ P n m = λ m g. scaled_row_is u rows.last powers (omega arith) (omega arith) (omega arith) m g in
      rw (en, ea) record {
        rows = rows;
        of_c = added_more n weight P (first_of sums) l r below.of_c rc row below.rows.start;
        of_s = added_more n weight P (second_of sums) l r below.of_s rs row below.rows.start;
      }
