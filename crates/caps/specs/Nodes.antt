-- The concentration matrix as the nodes are added to it. Assumes nothing.
use Rattle.std.specs.Prelude.{◌≡◌, refl, List, ℕ, ◌+◌, ◌*◌, ◌/◌, ◌%◌, ◌≤◌, ◌<◌, length, Float}
use Rattle.std.proofs.Common.{sym, ap, ap₂, ◌∙◌, le_refl, zero-add, arith}
use Rattle.std.proofs.Math.Nat.{div-add-mod'}
use Rattle.std.proofs.Math.ListN.{get_or}
use Rattle.std.specs.Float.Ieee.{nan, binary64, of_bits}
use Rattle.number.specs.Float64.{◌⊕◌, ◌⊗◌, ◌⊘◌, one64}
use Rattle.storage.specs.Filled.{Filled, filled_join, filled_to, filled_in, filled_same, filled_before, filled_after, filled_again}
use Rattle.storage.specs.Elements.{zero_at, from}
use Rattle.storage.specs.Rectangle.{by_rows, by_row}
use Rattle.storage.specs.Triangle.{row_start}
use Rattle.rounding.specs.Sums.{zero⁺, running_sum}
use Rattle.rounding.specs.SumSteps.{running_none, running_more}
use Rattle.legendre.specs.Directions.{row_sine, row_cosine}
use Rattle.recursion.specs.Recursion.{scale64, rescale, rescale_more}
use Rattle.matrix.specs.Matrix.{row_of, column_of_lem}
use Rattle.caps.specs.Caps.{cap_factor, node_term, concentration_cell}
use Rattle.caps.specs.Columns.{column_cell, TablesIn, column_is}

-- y times the column, added to what stands from index at of w on
unfoldable pub added_cell : Float → List Float → List Float → ℕ → ℕ → Float
added_cell y col w at j = get_or w (at + j) nan ⊕ y ⊗ get_or col j nan

-- x times the column times the column, added to the k by k matrix from index at of w on
unfoldable pub added_node : ℕ → Float → List Float → List Float → ℕ → ℕ → ℕ → Float
added_node k x col w at i j = get_or w (at + (i * k + j)) nan ⊕ x ⊗ get_or col i nan ⊗ get_or col j nan

-- row i added behind those before it
pub node_more : (k : ℕ) (x : Float) (col w : List Float) (at i : ℕ) {row : ℕ} {l l' : List Float} → row ≡ at + i * k
    → Filled at (by_rows (added_node k x col w at) k) (i * k) w l → Filled row (added_cell (x ⊗ get_or col i nan) col l row) k l l'
    → Filled at (by_rows (added_node k x col w at) k) ((i + 1) * k) w l'
unfolding added_cell added_node
node_more k x col w at i {row} {l} e below new =
    filled_to
    (filled_join below new e
    (λ j h.
    by_row (added_node k x col w at) k i j h
    ∙ sym
    (ap (λ (y : Float). y ⊕ x ⊗ get_or col i nan ⊗ get_or col j nan)
    (filled_after (row + j) nan below (omega arith)
    ∙ ap (λ (n : ℕ). get_or w n nan) (let z : row + j ≡ at + (i * k + j) = omega arith in z)))))
    (omega arith)

-- ---- one node
-- the lists have room: the tables of the recursion, the matrix behind them, the column
pub record NodeRoom (m k total at col work : ℕ) : Type 0 where
  pub small : m + k ≤ 181
  pub tables : total + row_start (m + k) + m < work
  pub behind : total + total ≤ at
  pub matrix : at + k * k ≤ work
  pub column : k ≤ col

-- what node adds, with the column by the tables at the front of w
unfoldable pub added_by : ℕ → ℕ → Float → Float → ℕ → Float → List Float → ℕ → ℕ → ℕ → Float
added_by k total t x m y w at i j =
    get_or w (at + (i * k + j)) nan
    ⊕ y ⊗ column_cell (from 0 w nan) (from total w nan) t x m i ⊗ column_cell (from 0 w nan) (from total w nan) t x m j

-- from the column as it was written
pub node_is : (k total : ℕ) (t x : Float) (m : ℕ) (y : Float) (at : ℕ) {w col col' l : List Float}
    → Filled 0 (column_cell (from 0 w nan) (from total w nan) t x m) k col col' → k ≤ length col
    → Filled at (by_rows (added_node k y col' w at) k) (k * k) w l → Filled at (by_rows (added_by k total t x m y w at) k) (k * k) w l
unfolding added_node added_by by_rows
node_is k total t x m y at {w} {col} {col'} c h r =
    filled_same (by_rows (added_by k total t x m y w at) k) r
    (λ n b.
    let i = n / k in
    let j = n % k in
    let ci = filled_in {j = i} nan c (row_of k n b) (sym (zero-add i)) (omega (arith, row_of k n b)) in
    let cj = filled_in {j = j} nan c (column_of_lem k n b) (sym (zero-add j)) (omega (arith, column_of_lem k n b)) in
    ap₂ (λ (p q : Float). get_or w (at + (i * k + j)) nan ⊕ y ⊗ p ⊗ q) ci cj)

-- ---- all nodes
-- u^m / 1e-280 of the cosine u of node ν
unfoldable pub rescale_of : List Float → ℕ → ℕ → Float
rescale_of lats m ν = rescale (row_cosine lats ν) m

abbrev pub first_rescale : ℕ → Float
first_rescale ν = one64 ⊘ scale64

unfoldable pub next_rescale : List Float → List Float → ℕ → Float
next_rescale lats r ν = get_or r ν nan ⊗ get_or lats (ν + ν + 1) nan

pub rescales_first : (lats : List Float) (n : ℕ) {d l : List Float} → Filled 0 first_rescale n d l → Filled 0 (rescale_of lats 0) n d l
unfolding rescale_of rescale
rescales_first lats n r = filled_same (rescale_of lats 0) r (λ i h. refl)

pub rescales_next : (lats : List Float) (m n : ℕ) {d r l : List Float} → Filled 0 (rescale_of lats m) n d r → n ≤ length d → Filled 0 (next_rescale lats r) n r l
    → Filled 0 (rescale_of lats (m + 1)) n d l
unfolding rescale_of next_rescale row_cosine
rescales_next lats m n {d} {r} old h new =
    filled_again old
    (filled_same (rescale_of lats (m + 1)) new
    (λ ν b.
    ap (λ (y : Float). y ⊗ get_or lats (ν + ν + 1) nan) (filled_in {j = ν} nan old b (sym (zero-add ν)) (omega arith))
    ∙ rescale_more (get_or lats (ν + ν + 1) nan) m))
    (le_refl n)

-- the matrix after the nodes below ν
unfoldable pub partial_cell : ℕ → Float → List Float → List Float → ℕ → ℕ → ℕ → Float
partial_cell m x₀ weights lats ν i j = running_sum binary64 (node_term m x₀ weights lats i j) ν zero⁺

module _ (L m k total at : ℕ) (x₀ : Float) (weights lats : List Float) where
  abbrev Below : ℕ → List Float → List Float → Type 0
  Below ν d l = Filled at (by_rows (partial_cell m x₀ weights lats ν) k) (k * k) d l

  pub nodes_none : {d l : List Float} → Filled at zero_at (k * k) d l → Below 0 d l
  unfolding partial_cell by_rows of_bits
  nodes_none r = filled_same (by_rows (partial_cell m x₀ weights lats 0) k) r (λ n b. running_none binary64 _ zero⁺)

  pub nodes_more : (ν : ℕ) {t x y : Float} {d l l' : List Float} → Below ν d l → at + k * k ≤ length d → TablesIn L total l → m + k ≡ L + 1 → t ≡ row_sine lats ν
      → x ≡ rescale_of lats m ν → y ≡ cap_factor m x₀ ⊗ get_or weights ν nan
      → Filled at (by_rows (added_by k total t x m y l at) k) (k * k) l l' → Below (ν + 1) d l'
  unfolding partial_cell added_by by_rows node_term rescale_of
  nodes_more ν {t} {x} {y} {d} {l} below room tables whole et ex ey new =
      filled_again below
      (filled_same (by_rows (partial_cell m x₀ weights lats (ν + 1)) k) new
      (λ n b.
      let i = n / k in
      let j = n % k in
      let hi = row_of k n b in
      let hj = column_of_lem k n b in
      let e = div-add-mod' n k in
      let old : get_or l (at + (i * k + j)) nan ≡ partial_cell m x₀ weights lats ν i j =
      filled_in {j = n} nan below b (ap (λ (z : ℕ). at + z) e) (omega (arith, e)) in
      let ci = column_is tables lats ν m i et ex (omega (arith, hi)) in
      let cj = column_is tables lats ν m j et ex (omega (arith, hj)) in
      cc (old, ci, cj, ey, running_more binary64 (node_term m x₀ weights lats i j) ν zero⁺)))
      (le_refl (k * k))

  pub nodes_all : {ν : ℕ} {d l : List Float} → ν ≡ L + 1 → Below ν d l → Filled at (by_rows (concentration_cell L m x₀ weights lats) k) (k * k) d l
  unfolding partial_cell by_rows concentration_cell
  nodes_all e r = filled_same (by_rows (concentration_cell L m x₀ weights lats) k) r (λ n b. rw e refl)

  -- what is written behind the tables leaves them
  pub tables_kept : {F : ℕ → Float} {n : ℕ} {d l : List Float} → TablesIn L total d → total + total ≤ at → Filled at F n d l → TablesIn L total l
  tables_kept t h r = record {
    size = t.size;
    of_a = λ i b. filled_before i nan r (omega arith) ∙ t.of_a i b;
    of_b = λ i b. filled_before (total + i) nan r (omega arith) ∙ t.of_b i b;
  }

-- the next number of a row
pub row_next : (y : Float) (col w : List Float) (at j : ℕ) {l : List Float} → Filled at (added_cell y col w at) j w l
    → get_or l (at + j) nan ⊕ y ⊗ get_or col j nan ≡ added_cell y col w at j
unfolding added_cell
row_next y col w at j r = ap (λ (z : Float). z ⊕ y ⊗ get_or col j nan) (filled_after (at + j) nan r (omega arith))

-- lists that are written keep their lengths
pub room_kept : {m k total at col work col' work' : ℕ} → NodeRoom m k total at col work → col' ≡ col → work' ≡ work → NodeRoom m k total at col' work'
room_kept r e f = rw (e, f) r
