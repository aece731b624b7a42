-- What one node adds to the rows of a table of the kernel. Assumes nothing.
use Rattle.std.specs.Prelude.{◌≡◌, cond, List, ℕ, ◌+◌, ◌≤◌, ◌<◌, ltb, length, Float}
use Rattle.std.proofs.Math.Path.{refl, ap}
use Rattle.std.proofs.Common.{sym, ◌∙◌, zero-add, arith, lt-ltb, le-ltb}
use Rattle.std.proofs.Math.ListN.{get_or}
use Rattle.std.specs.Float.Ieee.{nan}
use Rattle.number.specs.Float64.{◌⊕◌, ◌⊗◌}
use Rattle.number.specs.Root.{root_of}
use Rattle.storage.specs.Elements.{from, from_zero}
use Rattle.storage.specs.Filled.{Filled, filled_none, filled_to, filled_after, filled_same, filled_standing}
use Rattle.storage.specs.Triangle.{row_start, idx, along, cells, row_start_zero, rows_more}
use Rattle.recursion.specs.Recursion.{scale64, pmm, rescale, sectoral_ratio, p_cell, pmm_zero, pmm_more}
use Rattle.legendre.specs.Rows.{next_row, scaled_row, UpToRow, up_to_none, up_to_more, scaled_row_is}
use Rattle.region_nodes.specs.Regions.{half}

-- a row of a table from index at on, with a node's numbers added to the orders from first on: its P is q times r, and its integrals start at index start
unfoldable pub added_row : (first at start : ℕ) (weight : Float) (q r integrals sums : List Float) → ℕ → Float
added_row first at start weight q r integrals sums m =
    cond (ltb m first) (get_or sums (at + m) nan)
    (get_or sums (at + m) nan
    ⊕ weight ⊗ (get_or q m nan ⊗ get_or r m nan) ⊗ (half ⊗ (get_or integrals (start + m) nan ⊕ get_or integrals (start + m) nan)))

-- the same for the table, by degree and order
unfoldable pub added_cell : (first : ℕ) (weight : Float) (P : ℕ → ℕ → Float) (integrals : ℕ → Float) (sums : List Float) → ℕ → ℕ → Float
added_cell first weight P integrals sums l m =
    cond (ltb m first) (cells sums nan l m) (cells sums nan l m ⊕ weight ⊗ P l m ⊗ (half ⊗ (integrals m ⊕ integrals m)))

-- ---- one row
module _ (first at start : ℕ) (weight : Float) (q r integrals sums : List Float) where
  -- the orders below first stand
  pub row_first : Filled at (added_row first at start weight q r integrals sums) first sums sums
  unfolding added_row
  row_first = filled_standing nan at sums first (λ m h. rw (lt-ltb m first h) refl)

  -- the next order
  pub row_next : (m : ℕ) {l : List Float} → first ≤ m → Filled at (added_row first at start weight q r integrals sums) m sums l
      → get_or l (at + m) nan
      ⊕ weight ⊗ (get_or q m nan ⊗ get_or r m nan) ⊗ (half ⊗ (get_or integrals (start + m) nan ⊕ get_or integrals (start + m) nan))
      ≡ added_row first at start weight q r integrals sums m
  unfolding added_row
  row_next m h below = rw (le-ltb m first h, filled_after (at + m) nan below (omega arith)) refl

-- ---- all rows
module _ (first : ℕ) (weight : Float) (P : ℕ → ℕ → Float) (start : ℕ) (integrals d : List Float) where
  abbrev added : ℕ → ℕ → Float
  added = added_cell first weight P (from start integrals nan) d

  -- row n behind the rows below it, whose own numbers in the list are still those of d
  module _ {n at : ℕ} (q r : List Float) {l l' : List Float} (below : Filled 0 (along added) (row_start n) d l)
      (row : Filled at (added_row first at start weight q r integrals l) (n + 1) l l') (p : (m : ℕ) → m ≤ n → scaled_row q r m ≡ P n m)
      (e : at ≡ row_start n) where
    added_row_is : (m : ℕ) → m ≤ n → added_row first at start weight q r integrals l m ≡ added n m
    unfolding added_row added_cell scaled_row cells from
    added_row_is m h =
        let old : get_or l (at + m) nan ≡ get_or d (idx n m) nan =
        filled_after (at + m) nan below (omega arith) ∙ ap (λ (i : ℕ). get_or d (i + m) nan) e in
        rw (old, p m h) refl

    pub table_more : Filled 0 (along added) (row_start (n + 1)) d l'
    table_more =
        rows_more added n below (filled_same (added n) row (λ m h. added_row_is m (omega arith))) refl (e ∙ sym (zero-add (row_start n))) refl

-- the degrees below n are added to the tables kc and ks, which were kc₀ and ks₀, and the sectoral number of the next is e
pub record DegreesBelow (n at start : ℕ) (e t u weight : Float) (a b s c newer older kc₀ ks₀ kc ks : List Float) : Type 0 where
  pub rows : UpToRow (from 0 a nan) (from 0 b nan) t n at newer older
  pub sectoral : e ≡ pmm n
  pub of_c : Filled 0 (along (added_cell 0 weight (p_cell (from 0 a nan) (from 0 b nan) t u) (from start s nan) kc₀)) (row_start n) kc₀ kc
  pub of_s : Filled 0 (along (added_cell 1 weight (p_cell (from 0 a nan) (from 0 b nan) t u) (from start c nan) ks₀)) (row_start n) ks₀ ks

-- before degree 0
pub degrees_none : {start : ℕ} {t u weight : Float} {a b s c newer older kc ks : List Float}
    → DegreesBelow 0 0 start scale64 t u weight a b s c newer older kc ks kc ks
degrees_none = record {
  rows = up_to_none;
  sectoral = pmm_zero;
  of_c = filled_to filled_none (sym row_start_zero);
  of_s = filled_to filled_none (sym row_start_zero);
}

-- as many, said otherwise
pub degrees_to : {n n' at start : ℕ} {e t u weight : Float} {a b s c newer older kc₀ ks₀ kc ks : List Float}
    → DegreesBelow n at start e t u weight a b s c newer older kc₀ ks₀ kc ks → n ≡ n'
    → DegreesBelow n' at start e t u weight a b s c newer older kc₀ ks₀ kc ks
degrees_to below e = rw (← e) below

-- the lists have room for degree n
pub record DegreeFits (n N : ℕ) (r newer older : List Float) : Type 0 where
  pub degree : n ≤ N
  pub of_r : n < length r
  pub of_newer : n ≤ length newer
  pub of_older : n < length older

-- with degree n added
module _ {n at start N : ℕ} {e t u weight : Float} {a b s c newer older r kc₀ ks₀ kc ks l kc' ks' : List Float} where
  pub degrees_more : {n' at' : ℕ} {e' : Float} → DegreesBelow n at start e t u weight a b s c newer older kc₀ ks₀ kc ks
      → Filled 0 (rescale u) (N + 1) r r → DegreeFits n N r newer older → Filled 0 (next_row n at t e a b newer older) (n + 1) older l
      → Filled at (added_row 0 at start weight l r s kc) (n + 1) kc kc' → Filled at (added_row 1 at start weight l r c ks) (n + 1) ks ks'
      → n' ≡ n + 1 → at' ≡ at + n + 1 → e' ≡ e ⊗ root_of (sectoral_ratio (n + 1))
      → DegreesBelow n' at' start e' t u weight a b s c l newer kc₀ ks₀ kc' ks'
  degrees_more {n'} {at'} {e'} below powers room q rc rs en ea ee =
      let P = p_cell (from 0 a nan) (from 0 b nan) t u in
      let rows =
      up_to_more below.rows a b (λ m g. sym (from_zero a nan (idx n m))) (λ m g. sym (from_zero b nan (idx n m)))
      below.sectoral room.of_newer (omega arith) q refl refl in
      let row : (m : ℕ) → m ≤ n → scaled_row l r m ≡ P n m =
      λ m g. scaled_row_is u rows.last powers (omega arith) (omega arith) room.of_r m g in
      let sectoral = below.sectoral in
      let more = pmm_more n in
      rw (en, ea) record {
        rows = rows;
        sectoral = cc;
        of_c = table_more 0 weight P start s kc₀ l r below.of_c rc row below.rows.start;
        of_s = table_more 1 weight P start c ks₀ l r below.of_s rs row below.rows.start;
      }
