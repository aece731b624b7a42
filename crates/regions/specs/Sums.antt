-- What one node adds to the lower half of the matrix. Assumes nothing.
use Rattle.std.specs.Prelude.{◌≡◌, cond, List, ℕ, suc, ◌+◌, ◌*◌, ◌≤◌, ◌<◌, ltb, Float}
use Rattle.std.proofs.Math.Path.{refl, sym, ap, ap₂}
use Rattle.std.proofs.Common.{subst, ◌∙◌, mul-le-mul, le_of_suc-le-suc, lt_of_not-le, arith, lt-ltb, le-ltb}
use Rattle.std.proofs.Math.ListN.{get_or}
use Rattle.std.specs.Float.Ieee.{nan}
use Rattle.number.specs.Float64.{◌⊕◌, ◌⊗◌}
use Rattle.storage.specs.Filled.{Filled, filled_join, filled_after, filled_first}
use Rattle.storage.specs.Rectangle.{by_rows, by_rows_more}
use Rattle.matrix.specs.Matrix.{cell}
use Rattle.region_nodes.specs.Basis.{Basic, basic_at, basis_size, in_degree}
use Rattle.region_nodes.specs.NodeLaws.{degree_within}
use Rattle.region_nodes.specs.Places.{basic_at_lem, in_degree_lem}
use Rattle.region_nodes.specs.Regions.{integrals}

-- x times a run of the functions, times a run of the products, added to what stands from index at of d on
unfoldable pub added_run : Float → ℕ → ℕ → ℕ → List Float → List Float → List Float → ℕ → Float
added_run x first row at functions products d r =
    get_or d (at + r) nan ⊕ x ⊗ get_or functions (first + r) nan ⊗ get_or products (row + r) nan

-- where place j of the basis stands in its degree
unfoldable pub place_in : ℕ → ℕ → ℕ
place_in L j = in_degree (basic_at L j).order (basic_at L j).sine

-- the same for a row of the matrix: the column at place j of the basis takes the product at j's place in its degree
unfoldable pub added_row : ℕ → Float → ℕ → ℕ → List Float → List Float → List Float → ℕ → Float
added_row L x row at functions products d j =
    get_or d (at + j) nan ⊕ x ⊗ get_or functions j nan ⊗ get_or products (row + place_in L j) nan

-- and for the matrix, whose upper half is left alone
unfoldable pub added_cell : ℕ → ℕ → Float → List Float → List Float → List Float → ℕ → ℕ → Float
added_cell L n weight functions products d i j =
    cond (ltb i j) (cell n d i j)
    (cell n d i j
    ⊕ weight ⊗ get_or functions i nan ⊗ get_or functions j nan ⊗ get_or products (place_in L i * integrals L + place_in L j) nan)

-- the place after place a of degree l: a record, whose fields `omega` finds
pub record NextPlace (l a l' a' : ℕ) : Type 0 where
  pub is : l' * l' + a' ≡ l * l + a + 1
  pub inside : a' ≤ l' + l'
  pub small : l' ≤ l + 1

-- ---- places
-- degree k and the places before it are within those of a higher degree
pub degree_before : (k l : ℕ) → k < l → k * k + (k + k + 1) ≤ l * l
degree_before k l h = omega (arith, mul-le-mul h h)

-- a place of the basis is of a degree up to L
degree_most : (L l a : ℕ) → l * l + a < basis_size L → l ≤ L
unfolding basis_size
degree_most L l a h = le_of_suc-le-suc (lt_of_not-le {n = suc L} {m = l} (λ g. omega (arith, mul-le-mul g g)))

-- what a loop over the places knows at place a of degree l: a record, whose fields `omega` finds
pub record PlaceKnown (L n width l a : ℕ) : Type 0 where
  pub top : l ≤ L
  pub rows : n ≤ 484
  pub products : width ≤ 43
  pub inside : l + l < width

pub place_known : (L n width l a : ℕ) → L ≤ 21 → n ≡ basis_size L → width ≡ integrals L → l * l + a < n → PlaceKnown L n width l a
unfolding integrals
place_known L n width l a h e w b =
    let top = degree_most L l a (subst (λ (k : ℕ). l * l + a < k) e b) in
    let d = degree_within 0 L (omega arith) h in
    record { top = top; rows = omega (arith, d.places); products = omega arith; inside = omega arith }

place_in_lem : (L l r : ℕ) → l ≤ L → r ≤ l + l → place_in L (l * l + r) ≡ r
unfolding place_in
place_in_lem L l r h b = ap (λ (f : Basic). in_degree f.order f.sine) (basic_at_lem L l r h b) ∙ in_degree_lem r

-- ---- the loops
-- the next number of a run
pub run_next : (x : Float) (first row at : ℕ) (functions products d : List Float) (r : ℕ) {l : List Float}
    → Filled at (added_run x first row at functions products d) r d l
    → get_or l (at + r) nan ⊕ x ⊗ get_or functions (first + r) nan ⊗ get_or products (row + r) nan ≡ added_run x first row at functions products d r
unfolding added_run
run_next x first row at functions products d r e =
    ap (λ (y : Float). y ⊕ x ⊗ get_or functions (first + r) nan ⊗ get_or products (row + r) nan) (filled_after (at + r) nan e (omega arith))

-- the first numbers of degree k, behind those of the degrees below it
pub row_more : (L : ℕ) (x : Float) (row at : ℕ) (functions products d : List Float) (k : ℕ) {first at' count : ℕ} {l l' : List Float} → k ≤ L
    → count ≤ k + k + 1 → first ≡ k * k → at' ≡ at + first → Filled at (added_row L x row at functions products d) first d l
    → Filled at' (added_run x first row at' functions products l) count l l'
    → Filled at (added_row L x row at functions products d) (first + count) d l'
unfolding added_row added_run
row_more L x row at functions products d k {first} {at'} {count} {l} h b e p below new =
    filled_join below new p
    (λ r g.
    let q : at' + r ≡ at + (first + r) = omega arith in
    let old : get_or l (at' + r) nan ≡ get_or d (at + (first + r)) nan =
    filled_after (at' + r) nan below (omega arith) ∙ ap (λ (i : ℕ). get_or d i nan) q in
    let place : place_in L (first + r) ≡ r = ap (λ (i : ℕ). place_in L (i + r)) e ∙ place_in_lem L k r h (omega arith) in
    sym
    (ap₂ (λ (y : Float) (i : ℕ). y ⊕ x ⊗ get_or functions (first + r) nan ⊗ get_or products (row + i) nan) old (sym place)))

module _ (L n : ℕ) (weight : Float) (functions products d : List Float) where
  pub added-left : (i j : ℕ) → j ≤ i
      → added_cell L n weight functions products d i j
      ≡ cell n d i j
      ⊕ weight ⊗ get_or functions i nan ⊗ get_or functions j nan ⊗ get_or products (place_in L i * integrals L + place_in L j) nan
  unfolding added_cell
  added-left i j h = rw (le-ltb i j h) refl

  pub added_right : (i j : ℕ) → i < j → added_cell L n weight functions products d i j ≡ cell n d i j
  unfolding added_cell
  added_right i j h = rw (lt-ltb i j h) refl

  -- the row of place a of degree l, written up to the diagonal, behind the rows before it
  pub node_more : (i l a : ℕ) {width row at : ℕ} {x : Float} {e e' : List Float} → l ≤ L → a ≤ l + l → i ≡ l * l + a → i < n → width ≡ integrals L
      → row ≡ a * width → at ≡ i * n → x ≡ weight ⊗ get_or functions i nan
      → Filled 0 (by_rows (added_cell L n weight functions products d) n) (i * n) d e
      → Filled at (added_row L x row at functions products e) (l * l + a + 1) e e'
      → Filled 0 (by_rows (added_cell L n weight functions products d) n) ((i + 1) * n) d e'
  unfolding added_row cell
  node_more i l a {width} {row} {at} {x} {e} h b p g w q s y below new =
      let old : (j : ℕ) → get_or e (at + j) nan ≡ cell n d i j =
      λ j. filled_after (at + j) nan below (omega arith) ∙ ap (λ (k : ℕ). get_or d (k + j) nan) s in
      let place : place_in L i ≡ a = ap (place_in L) p ∙ place_in_lem L l a h b in
      let start : row ≡ place_in L i * integrals L = q ∙ ap₂ (λ (u v : ℕ). u * v) (sym place) w in
      let left : (j : ℕ) → j < l * l + a + 1
      → get_or e (at + j) nan ⊕ x ⊗ get_or functions j nan ⊗ get_or products (row + place_in L j) nan
      ≡ added_cell L n weight functions products d i j =
      λ j c. rw (old j, y, start) (sym (added-left i j (omega arith))) in
      let right : (j : ℕ) → l * l + a + 1 ≤ j → j < n → get_or e (at + j) nan ≡ added_cell L n weight functions products d i j =
      λ j c k. old j ∙ sym (added_right i j (omega arith)) in
      by_rows_more (added_cell L n weight functions products d) n i below
      (filled_first (added_cell L n weight functions products d i) nan at (l * l + a + 1) n new (omega arith) left right) refl s
