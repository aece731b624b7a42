-- The sums over the degrees, order by order, as rows are added to them. Assumes nothing.
use Rattle.std.specs.Prelude.{◌≡◌, refl, List, ℕ, ◌+◌, ◌≤◌, ◌<◌, length, Float}
use Rattle.std.proofs.Common.{sym, ◌∙◌, zero-add, arith}
use Rattle.std.proofs.Math.Path.{ap}
use Rattle.std.proofs.Math.ListN.{get_or}
use Rattle.std.specs.Float.Ieee.{binary64, nan, of_bits}
use Rattle.number.specs.Float64.{◌⊕◌, ◌⊗◌}
use Rattle.storage.specs.Elements.{zero_at, from, from_zero}
use Rattle.storage.specs.Filled.{Filled, filled_same, filled_in, filled_front}
use Rattle.storage.specs.Triangle.{row_start, idx, cells}
use Rattle.recursion.specs.Recursion.{pmm, rescale, p_cell}
use Rattle.legendre.specs.Rows.{next_row, scaled_row, UpToRow, up_to_none, up_to_more, scaled_row_is}
use Rattle.rounding.specs.Sums.{column_sum}
use Rattle.rounding.specs.SumSteps.{column_none, column_more, column_past}
use Rattle.rounding.specs.Margins.{grid_summand}

-- the sums with a degree's numbers added: factor * P before the coefficient, whose row starts at index at
unfoldable pub added_row : Float → ℕ → (p c sums : List Float) → ℕ → Float
added_row factor at p c sums m = get_or sums m nan ⊕ factor ⊗ get_or p m nan ⊗ get_or c (at + m) nan

-- l is d with its first N + 1 numbers replaced by the sums over the degrees below n, one for each order
abbrev pub SumsBelow : (n N : ℕ) (P : ℕ → ℕ → Float) (factors c d l : List Float) → Type 0
SumsBelow n N P factors c d l = Filled 0 (column_sum binary64 (grid_summand P (from 0 factors nan) (cells c nan)) n) (N + 1) d l

module _ (N : ℕ) (P : ℕ → ℕ → Float) (factors c : List Float) where
  abbrev terms : ℕ → ℕ → Float
  terms = grid_summand P (from 0 factors nan) (cells c nan)

  -- before degree 0 they are clear
  sums_none : {l : List Float} → Filled 0 zero_at (N + 1) l l → SumsBelow 0 N P factors c l l
  unfolding of_bits
  sums_none z = filled_same (column_sum binary64 terms 0) z (λ m h. column_none binary64 terms m)

  module _ {n at : ℕ} (p : List Float) {d l l' : List Float} (below : SumsBelow n N P factors c d l)
      (row : Filled 0 (added_row (get_or factors n nan) at p c l) (n + 1) l l') (pv : (m : ℕ) → m ≤ n → get_or p m nan ≡ P n m)
      (start : at ≡ row_start n) (h : n ≤ N) (b : N < length l) where
    added_row_is : (m : ℕ) → m ≤ n → added_row (get_or factors n nan) at p c l m ≡ column_sum binary64 terms (n + 1) m
    unfolding added_row cells
    added_row_is m g =
        let v = filled_in {j = m} nan below (omega arith) (sym (zero-add m)) (omega (arith, below.long)) in
        let q = pv m g in
        let f = from_zero factors nan n in
        let z = ap (λ (i : ℕ). get_or c (i + m) nan) start in
        let more = column_more binary64 terms n m g in
        cc

    -- with degree n added
    sums_more : SumsBelow (n + 1) N P factors c d l'
    sums_more =
        filled_front (column_sum binary64 terms (n + 1)) below row (omega arith) (λ m g. added_row_is m (omega arith))
        (λ m g k. column_past binary64 terms n m (omega arith))

-- the degrees below n are added to the sums x and y, which were x₀ and y₀
pub record DegreesBelow (n at N : ℕ) (t u : Float) (a b c s factors newer older x₀ y₀ x y : List Float) : Type 0 where
  pub rows : UpToRow (from 0 a nan) (from 0 b nan) t n at newer older
  pub of_c : SumsBelow n N (p_cell (from 0 a nan) (from 0 b nan) t u) factors c x₀ x
  pub of_s : SumsBelow n N (p_cell (from 0 a nan) (from 0 b nan) t u) factors s y₀ y

-- before degree 0
pub degrees_none : {N : ℕ} {t u : Float} {a b c s factors newer older x y : List Float} → Filled 0 zero_at (N + 1) x x → Filled 0 zero_at (N + 1) y y
    → DegreesBelow 0 0 N t u a b c s factors newer older x y x y
degrees_none zx zy = record { rows = up_to_none; of_c = sums_none _ _ _ _ zx; of_s = sums_none _ _ _ _ zy }

-- as many, said otherwise
pub degrees_to : {n n' at N : ℕ} {t u : Float} {a b c s factors newer older x₀ y₀ x y : List Float}
    → DegreesBelow n at N t u a b c s factors newer older x₀ y₀ x y → n ≡ n' → DegreesBelow n' at N t u a b c s factors newer older x₀ y₀ x y
degrees_to below e = rw (← e) below

-- the lists have room for degree n
pub record DegreeFits (n N : ℕ) (sectorals r newer older p x y : List Float) : Type 0 where
  pub degree : n ≤ N
  pub of_sectorals : n < length sectorals
  pub of_r : n < length r
  pub of_newer : n ≤ length newer
  pub of_older : n < length older
  pub of_p : n < length p
  pub of_x : N < length x
  pub of_y : N < length y

-- with degree n added
module _ {n at N : ℕ} {t u : Float} {a b c s factors sectorals newer older r p x₀ y₀ x y l p' x' y' : List Float} where
  pub degrees_more : {n' at' : ℕ} → DegreesBelow n at N t u a b c s factors newer older x₀ y₀ x y → Filled 0 pmm (N + 1) sectorals sectorals
      → Filled 0 (rescale u) (N + 1) r r → DegreeFits n N sectorals r newer older p x y
      → Filled 0 (next_row n at t (get_or sectorals n nan) a b newer older) (n + 1) older l → Filled 0 (scaled_row l r) (n + 1) p p'
      → Filled 0 (added_row (get_or factors n nan) at p' c x) (n + 1) x x' → Filled 0 (added_row (get_or factors n nan) at p' s y) (n + 1) y y'
      → n' ≡ n + 1 → at' ≡ at + n + 1 → DegreesBelow n' at' N t u a b c s factors l newer x₀ y₀ x' y'
  degrees_more {n'} {at'} below sectoral powers room q pr rx ry en ea =
      let P = p_cell (from 0 a nan) (from 0 b nan) t u in
      let rows =
      up_to_more below.rows a b (λ m g. sym (from_zero a nan (idx n m))) (λ m g. sym (from_zero b nan (idx n m)))
      (filled_in {j = n} nan sectoral (omega arith) (sym (zero-add n)) (omega arith)) (omega arith) (omega arith) q refl refl in
      let row : (m : ℕ) → m ≤ n → get_or p' m nan ≡ P n m =
      λ m g. filled_in {j = m} nan pr (omega arith) (sym (zero-add m)) (omega arith)
      ∙ scaled_row_is u rows.last powers (omega arith) (omega arith) (omega arith) m g in
      rw (en, ea) record {
        rows = rows;
        of_c = sums_more N P factors c p' below.of_c rx row below.rows.start (omega arith) (omega arith);
        of_s = sums_more N P factors s p' below.of_s ry row below.rows.start (omega arith) (omega arith);
      }
