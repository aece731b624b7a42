-- The matrix as the nodes are added to it. Assumes nothing.
use Rattle.std.specs.Prelude.{◌≡◌, Bool, cond, List, ℕ, ◌+◌, ◌*◌, ◌/◌, ◌%◌, ◌≤◌, ◌<◌, ltb, length, get_or, Float}
use Rattle.std.proofs.Math.Path.{refl, sym, ap}
use Rattle.std.proofs.Common.{ap₂, subst, ◌∙◌, zero-le, zero-add, le_refl, mul-le-mul, mul-le-mul_right, div-add-mod', arith, ltb-true, ltb-false, le-ltb, eq-eqb, ne_eqb}
use Rattle.std.proofs.Math.Bool.{true, false}
use Rattle.std.specs.Float.Ieee.{nan, of_bits}
use Rattle.number.specs.Float64.{◌⊕◌, ◌⊘◌, zero64}
use Rattle.storage.specs.Elements.{from, from_zero, zero_at}
use Rattle.storage.specs.Filled.{Filled, filled_in, filled_to, filled_self, filled_same, filled_again, filled_standing}
use Rattle.storage.specs.Iterate.{iterate, iterate_done, iterate_last}
use Rattle.storage.specs.Rectangle.{by_rows, by_rows_at, by_rows_within}
use Rattle.storage.specs.Triangle.{idx, table_size, along, along_same, idx-within}
use Rattle.recursion.specs.Recursion.{a_cell, b_cell, p_cell, p_same}
use Rattle.legendre.specs.Directions.{row_sine, row_cosine, legendre_row}
use Rattle.matrix.specs.Matrix.{cell, cell-within}
use Rattle.region_nodes.specs.Basis.{basis_size}
use Rattle.region_nodes.specs.Regions.{integrals, add_node, function_at, product_at, region_term, four_pi, lower_cell, region_cell}
use Rattle.region_nodes.specs.Nodes.{by_place, product_in}
use Rattle.region_nodes.specs.NodeLaws.{degree_within, by_place_lem, product_in_lem, place-within}
use Rattle.regions.specs.Sums.{place_in, added_cell, added-left, added_right}
use Rattle.regions.specs.Mirror.{over_four_pi, mirrored, mirrored-left, mirrored_right}

-- the lists of the nodes have their lengths, for a degree up to most: a record, whose fields `omega` finds
pub record NodeListsTo (most L nodes weights lats marks s c : ℕ) : Type 0 where
  pub top : L ≤ most
  pub few : nodes ≤ 65535
  pub of_weights : weights ≡ nodes
  pub of_latitudes : lats ≡ nodes + nodes
  pub of_marks : marks ≡ nodes
  pub of_s : s ≡ nodes * integrals L
  pub of_c : c ≡ nodes * integrals L

abbrev pub NodeLists : (L nodes weights lats marks s c : ℕ) → Type 0
NodeLists = NodeListsTo 21

-- the tables of the recursion, and room in the arrays and in the matrix
pub record NodeArrays (L : ℕ) (a b : List Float) (p functions products d : ℕ) : Type 0 where
  pub top : L ≤ 21
  pub of_a : Filled 0 (along a_cell) (table_size L) a a
  pub of_b : Filled 0 (along b_cell) (table_size L) b b
  pub room_a : table_size L ≤ length a
  pub room_b : table_size L ≤ length b
  pub room_p : table_size L ≤ p
  pub room_functions : basis_size L ≤ functions
  pub room_products : integrals L * integrals L ≤ products
  pub room_matrix : basis_size L * basis_size L ≤ d

-- the arrays of the call that fills the matrix are long enough: a record, whose fields `omega` finds
pub record ArraySizes (L : ℕ) : Type 0 where
  pub tables : table_size L ≤ 253
  pub functions : basis_size L ≤ 484
  pub products : integrals L * integrals L ≤ 1849

pub array_sizes : (L : ℕ) → L ≤ 21 → ArraySizes L
unfolding integrals
array_sizes L h =
    let d = degree_within 0 L (omega arith) h in
    let width : L + L + 1 ≤ 43 = omega arith in
    record { tables = d.rows; functions = d.places; products = omega (arith, mul-le-mul width width) }

-- where the integrals of a node stand in the lists: a record, whose fields `omega` finds
pub record IntegralsAt (L at s c : ℕ) : Type 0 where
  pub small : at ≤ 353954535
  pub of_s : at + (L + L) < s
  pub of_c : at + (L + L) < c

pub width_is : (L : ℕ) → L + L + 1 ≡ integrals L
unfolding integrals
width_is L = refl

pub integrals_at : {most L nodes weights lats marks s c : ℕ} (ν : ℕ) → most ≤ 2700 → NodeListsTo most L nodes weights lats marks s c → ν < nodes
    → IntegralsAt L (ν * (L + L + 1)) s c
integrals_at {most} {L} {nodes} {weights} {lats} {marks} {s} {c} ν top lists h =
    let up = mul-le-mul_right (L + L + 1) h in
    let width : L + L + 1 ≤ 5401 = omega (arith, lists.top) in
    let product = mul-le-mul lists.few width in
    let es : s ≡ nodes * (L + L + 1) = lists.of_s ∙ ap (λ (k : ℕ). nodes * k) (sym (width_is L)) in
    let ec : c ≡ nodes * (L + L + 1) = lists.of_c ∙ ap (λ (k : ℕ). nodes * k) (sym (width_is L)) in
    record { small = omega (arith, up, product); of_s = omega (arith, up, es); of_c = omega (arith, up, ec) }

-- lists that are written keep their lengths
pub arrays_kept : {L : ℕ} {a b : List Float} {p f q d p' f' q' d' : ℕ} → NodeArrays L a b p f q d → p' ≡ p → f' ≡ f → q' ≡ q → d' ≡ d
    → NodeArrays L a b p' f' q' d'
arrays_kept r e f g h = rw (e, f, g, h) r

-- the cells of a matrix that was written, one by one
pub cell_written : (n : ℕ) (F : ℕ → ℕ → Float) {d l : List Float} → Filled 0 (by_rows F n) (n * n) d l → n * n ≤ length d → (i j : ℕ) → i < n → j < n
    → cell n l i j ≡ F i j
unfolding cell
cell_written n F r h i j b g = by_rows_at F n i j nan r g (cell-within n i j b g) h

-- the cells that stand in a list
cells_there : (n : ℕ) (d : List Float) → Filled 0 (by_rows (cell n d) n) (n * n) d d
unfolding by_rows cell
cells_there n d = filled_standing nan 0 d (n * n) (λ k h. ap (λ (m : ℕ). get_or d m nan) (zero-add k ∙ sym (div-add-mod' k n)))

-- a table of P that was computed by the tables of the recursion is that of the node's latitude
pub table_is : (L : ℕ) (lats : List Float) (ν : ℕ) {a b : List Float} {t u : Float} {p p' : List Float} → Filled 0 (along a_cell) (table_size L) a a
    → Filled 0 (along b_cell) (table_size L) b b → table_size L ≤ length a → table_size L ≤ length b → t ≡ row_sine lats ν → u ≡ row_cosine lats ν
    → Filled 0 (along (p_cell (from 0 a nan) (from 0 b nan) t u)) (table_size L) p p' → Filled 0 (along (legendre_row lats ν)) (table_size L) p p'
unfolding legendre_row
table_is L lats ν {a} {b} {t} {u} ra rb la lb et eu r =
    let P : ℕ → ℕ → Float = p_cell (from 0 a nan) (from 0 b nan) t u in
    let same : (n m : ℕ) → m ≤ n → n ≤ L → P n m ≡ legendre_row lats ν n m =
    λ n m h l.
    ap₂ (λ (x y : Float). p_cell (from 0 a nan) (from 0 b nan) x y n m) et eu
    ∙ p_same (from 0 a nan) (from 0 b nan) (along a_cell) (along b_cell) (row_sine lats ν) (row_cosine lats ν) n m h
    (λ i g q.
    let w = idx-within i m L (omega arith) (omega arith) in (
      from_zero a nan (idx i m) ∙ filled_in nan ra w (sym (zero-add (idx i m))) (omega (arith, w, la)),
      from_zero b nan (idx i m) ∙ filled_in nan rb w (sym (zero-add (idx i m))) (omega (arith, w, lb)),
    )) in
    filled_same (along (legendre_row lats ν)) r (along_same P (legendre_row lats ν) L same)

module _ (L : ℕ) (weights lats : List Float) (marks : List ℕ) (s c : List Float) where
  -- node ν added to the matrix d
  unfoldable pub node_cell : ℕ → List Float → ℕ → ℕ → Float
  node_cell ν d i j = cond (ltb i j) (cell (basis_size L) d i j) (add_node L weights lats marks s c i j ν (cell (basis_size L) d i j))

  -- the nodes below ν, added to zeros
  unfoldable pub partial_cell : ℕ → ℕ → ℕ → Float
  partial_cell ν i j = cond (ltb i j) zero64 (iterate (add_node L weights lats marks s c i j) 0 ν zero64)

  -- ---- one node
  abbrev n : ℕ
  n = basis_size L

  abbrev added : ℕ → ℕ → ℕ → Float → Float
  added = add_node L weights lats marks s c

  skip : (i j ν : ℕ) (x : Float) → get_or marks ν 0 ≡ 0 → added i j ν x ≡ x
  unfolding add_node
  skip i j ν x e = rw (eq-eqb (get_or marks ν 0) 0 e) refl

  add : (i j ν : ℕ) (x : Float) → (get_or marks ν 0 ≡ 0 → ⊥) → added i j ν x ≡ x ⊕ region_term L weights lats marks s c i j ν
  unfolding add_node
  add i j ν x e = rw (ne_eqb (get_or marks ν 0) 0 e) refl

  node_right : (ν : ℕ) (d : List Float) (i j : ℕ) → ltb i j ≡ true → node_cell ν d i j ≡ cell n d i j
  unfolding node_cell
  node_right ν d i j e = rw e refl

  node_left : (ν : ℕ) (d : List Float) (i j : ℕ) → ltb i j ≡ false → node_cell ν d i j ≡ added i j ν (cell n d i j)
  unfolding node_cell
  node_left ν d i j e = rw e refl

  skip_either : (ν : ℕ) (d : List Float) (i j : ℕ) → get_or marks ν 0 ≡ 0 → (b : Bool) → ltb i j ≡ b → cell n d i j ≡ node_cell ν d i j
  skip_either ν d i j e true h = sym (node_right ν d i j h)
  skip_either ν d i j e false h = sym (node_left ν d i j h ∙ skip i j ν (cell n d i j) e)

  -- a node that is marked 0 adds nothing
  pub node_skipped : (ν : ℕ) (d : List Float) → get_or marks ν 0 ≡ 0 → Filled 0 (by_rows (node_cell ν d) n) (n * n) d d
  node_skipped ν d e = by_rows_within (cell n d) (node_cell ν d) n n (λ i j h g. skip_either ν d i j e (ltb i j) refl) (cells_there n d)

  -- the functions of a node, as they were written
  functions_are : (ν : ℕ) {p p' f f' : List Float} → Filled 0 (along (legendre_row lats ν)) (table_size L) p p' → table_size L ≤ length p
      → Filled 0 (by_place L p') n f f' → n ≤ length f → (i : ℕ) → i < n → get_or f' i nan ≡ function_at L lats ν i
  unfolding function_at
  functions_are ν rp lp rf lf i h =
      filled_in {j = i} nan rf h (sym (zero-add i)) (omega (arith, h, lf)) ∙ by_place_lem (legendre_row lats ν) L rp lp i h

  -- and its products
  abbrev integrals_of : ℕ → List Float → ℕ → Float
  integrals_of at l = from at l nan

  place_inside : (i : ℕ) → i < n → place_in L i < integrals L
  unfolding place_in integrals
  place_inside i h = omega (arith, place-within L i h)

  products_are : (ν : ℕ) {q q' : List Float}
      → Filled 0 (by_rows (product_in (integrals_of (ν * integrals L) s) (integrals_of (ν * integrals L) c)) (integrals L)) (integrals L * integrals L) q q'
      → integrals L * integrals L ≤ length q → (i j : ℕ) → i < n → j < n
      → get_or q' (place_in L i * integrals L + place_in L j) nan ≡ product_at L s c ν i j
  unfolding place_in product_at
  products_are ν rq lq i j h g =
      let a = place_inside i h in
      let b = place_inside j g in
      by_rows_at (product_in (integrals_of (ν * integrals L) s) (integrals_of (ν * integrals L) c)) (integrals L) (place_in L i) (place_in L j) nan rq b
      (cell-within (integrals L) (place_in L i) (place_in L j) a b) lq
      ∙ product_in_lem (integrals_of (ν * integrals L) s) (integrals_of (ν * integrals L) c) L i j h g

  added_either : (ν : ℕ) (f q d : List Float) → (get_or marks ν 0 ≡ 0 → ⊥) → (i j : ℕ) → get_or f i nan ≡ function_at L lats ν i
      → get_or f j nan ≡ function_at L lats ν j
      → get_or q (place_in L i * integrals L + place_in L j) nan ≡ product_at L s c ν i j → (b : Bool) → ltb i j ≡ b
      → added_cell L n (get_or weights ν nan) f q d i j ≡ node_cell ν d i j
  unfolding region_term
  added_either ν f q d mark i j ei ej e true h = added_right L n (get_or weights ν nan) f q d i j (ltb-true i j h) ∙ sym (node_right ν d i j h)
  added_either ν f q d mark i j ei ej e false h =
      added-left L n (get_or weights ν nan) f q d i j (ltb-false i j h)
      ∙ sym (node_left ν d i j h ∙ add i j ν (cell n d i j) mark ∙ rw (← ei, ← ej, ← e) refl)

  -- node ν, from its functions and its products
  pub node_added_lem : (ν : ℕ) {m : ℕ} {p p' f f' q q' d d' : List Float} → (get_or marks ν 0 ≡ 0 → ⊥) → table_size L ≤ length p → n ≤ length f
      → integrals L * integrals L ≤ length q → m ≡ n → Filled 0 (along (legendre_row lats ν)) (table_size L) p p' → Filled 0 (by_place L p') n f f'
      → Filled 0 (by_rows (product_in (integrals_of (ν * (L + L + 1)) s) (integrals_of (ν * (L + L + 1)) c)) (integrals L)) (integrals L * integrals L) q q'
      → Filled 0 (by_rows (added_cell L m (get_or weights ν nan) f' q' d) m) (m * m) d d' → Filled 0 (by_rows (node_cell ν d) n) (n * n) d d'
  node_added_lem ν {m} {p} {p'} {f} {f'} {q} {q'} {d} {d'} mark lp lf lq e rp rf rq rd =
      let products =
      subst (λ (k : ℕ). Filled 0 (by_rows (product_in (integrals_of (ν * k) s) (integrals_of (ν * k) c)) (integrals L)) (integrals L * integrals L) q q')
      (width_is L) rq in
      by_rows_within (added_cell L n (get_or weights ν nan) f' q' d) (node_cell ν d) n n
      (λ i j h g.
      added_either ν f' q' d mark i j (functions_are ν rp lp rf lf i h) (functions_are ν rp lp rf lf j g) (products_are ν products lq i j h g)
      (ltb i j) refl)
      (subst (λ (k : ℕ). Filled 0 (by_rows (added_cell L k (get_or weights ν nan) f' q' d) k) (k * k) d d') e rd)

  -- ---- all nodes
  partial_right : (ν i j : ℕ) → ltb i j ≡ true → partial_cell ν i j ≡ zero64
  unfolding partial_cell
  partial_right ν i j e = rw e refl

  partial_left : (ν i j : ℕ) → ltb i j ≡ false → partial_cell ν i j ≡ iterate (added i j) 0 ν zero64
  unfolding partial_cell
  partial_left ν i j e = rw e refl

  none_either : (i j : ℕ) → (b : Bool) → ltb i j ≡ b → zero64 ≡ partial_cell 0 i j
  none_either i j true e = sym (partial_right 0 i j e)
  none_either i j false e = sym (partial_left 0 i j e ∙ iterate_done (added i j) 0 0 zero64 (le_refl 0))

  -- with no node added, the matrix is zeros
  pub nodes_none : {m : ℕ} {d l : List Float} → m ≡ n → Filled 0 zero_at (m * m) d l → Filled 0 (by_rows (partial_cell 0) n) (n * n) l l
  unfolding by_rows of_bits
  nodes_none e r =
      filled_same (by_rows (partial_cell 0) n) (filled_self (filled_to r (ap (λ (k : ℕ). k * k) e)))
      (λ k h. none_either (k / n) (k % n) (ltb (k / n) (k % n)) refl)

  more_either : (ν : ℕ) (l : List Float) (i j : ℕ) → cell n l i j ≡ partial_cell ν i j → (b : Bool) → ltb i j ≡ b → node_cell ν l i j ≡ partial_cell (ν + 1) i j
  more_either ν l i j e true h = node_right ν l i j h ∙ e ∙ partial_right ν i j h ∙ sym (partial_right (ν + 1) i j h)
  more_either ν l i j e false h =
      node_left ν l i j h
      ∙ ap (added i j ν) (e ∙ partial_left ν i j h)
      ∙ iterate_last (added i j) 0 ν zero64 zero-le
      ∙ sym (partial_left (ν + 1) i j h)

  -- node ν added to those below it
  pub nodes_more : (ν : ℕ) {d l l' : List Float} → n * n ≤ length d → Filled 0 (by_rows (partial_cell ν) n) (n * n) d l
      → Filled 0 (by_rows (node_cell ν l) n) (n * n) l l' → Filled 0 (by_rows (partial_cell (ν + 1)) n) (n * n) d l'
  nodes_more ν {d} {l} room below new =
      filled_again below
      (by_rows_within (node_cell ν l) (partial_cell (ν + 1)) n n
      (λ i j h g. more_either ν l i j (cell_written n (partial_cell ν) below room i j h g) (ltb i j) refl) new)
      (le_refl (n * n))

  -- all nodes, in place of what the list held
  pub nodes_all : {m ν nodes : ℕ} {d l l' : List Float} → m ≡ n → ν ≡ nodes → Filled 0 zero_at (m * m) d l
      → Filled 0 (by_rows (partial_cell ν) n) (n * n) l l' → Filled 0 (by_rows (partial_cell nodes) n) (n * n) d l'
  nodes_all {m} {ν} {nodes} {d} {l} {l'} e f zeros r =
      filled_again zeros (subst (λ (k : ℕ). Filled 0 (by_rows (partial_cell k) n) (n * n) l l') f r) (rw e (le_refl (n * n)))

  -- ---- the whole matrix: divided, and its lower half in both
  module _ (nodes : ℕ) where
    abbrev lower : ℕ → ℕ → Float
    lower = lower_cell L weights lats marks s c nodes

    abbrev region : ℕ → ℕ → Float
    region = region_cell L weights lats marks s c nodes

    lower_is : (i j : ℕ) → j ≤ i → partial_cell nodes i j ⊘ four_pi ≡ lower i j
    unfolding lower_cell
    lower_is i j h = ap (λ (x : Float). x ⊘ four_pi) (partial_left nodes i j (le-ltb i j h))

    region_right : (i j : ℕ) → ltb i j ≡ true → region i j ≡ lower j i
    unfolding region_cell
    region_right i j e = rw e refl

    region-left : (i j : ℕ) → ltb i j ≡ false → region i j ≡ lower i j
    unfolding region_cell
    region-left i j e = rw e refl

    region_either : (y : List Float) → ((i j : ℕ) → i < n → j < n → j ≤ i → cell n y i j ≡ lower i j) → (i j : ℕ) → i < n → j < n → (b : Bool) → ltb i j ≡ b
        → mirrored n y i j ≡ region i j
    region_either y e i j h g true b =
        let lt = ltb-true i j b in
        mirrored_right n y i j lt ∙ e j i g h (omega arith) ∙ sym (region_right i j b)
    region_either y e i j h g false b =
        let le = ltb-false i j b in
        mirrored-left n y i j le ∙ e i j h g le ∙ sym (region-left i j b)

    divided_lower : {d x y : List Float} → n * n ≤ length d → Filled 0 (by_rows (partial_cell nodes) n) (n * n) d x → Filled 0 (over_four_pi x) (n * n) x y
        → (i j : ℕ) → i < n → j < n → j ≤ i → cell n y i j ≡ lower i j
    unfolding over_four_pi cell
    divided_lower room sums quotients i j h g b =
        let k = cell-within n i j h g in
        filled_in {j = i * n + j} nan quotients k (sym (zero-add (i * n + j))) (omega (arith, k, room, sums.long))
        ∙ ap (λ (v : Float). v ⊘ four_pi) (cell_written n (partial_cell nodes) sums room i j h g)
        ∙ lower_is i j b

    pub region_is : {m : ℕ} {d x y z : List Float} → m ≡ n → n * n ≤ length d → Filled 0 (by_rows (partial_cell nodes) n) (n * n) d x
        → Filled 0 (over_four_pi x) (m * m) x y → Filled 0 (by_rows (mirrored m y) m) (m * m) y z → Filled 0 (by_rows region n) (n * n) d z
    region_is {m} {d} {x} {y} {z} e room sums quotients whole =
        let quotients' = filled_to quotients (ap (λ (k : ℕ). k * k) e) in
        let whole' = subst (λ (k : ℕ). Filled 0 (by_rows (mirrored k y) k) (k * k) y z) e whole in
        let cells = by_rows_within (mirrored n y) region n n
        (λ i j h g. region_either y (divided_lower room sums quotients') i j h g (ltb i j) refl) whole' in
        filled_again sums (filled_again quotients' cells (le_refl (n * n))) (le_refl (n * n))

    symmetric_either : (i j : ℕ) (b : Bool) → ltb i j ≡ b → (b' : Bool) → ltb j i ≡ b' → region i j ≡ region j i
    symmetric_either i j true e b' e' =
        let lt = ltb-true i j e in
        region_right i j e ∙ sym (region-left j i (le-ltb j i (omega arith)))
    symmetric_either i j false e true e' = region-left i j e ∙ sym (region_right j i e')
    symmetric_either i j false e false e' =
        let le = ltb-false i j e in
        let le' = ltb-false j i e' in
        let z : i ≡ j = omega arith in
        ap₂ region z (sym z)

    -- the two numbers across the diagonal are the same
    pub region-symmetric : (i j : ℕ) → region i j ≡ region j i
    region-symmetric i j = symmetric_either i j (ltb i j) refl (ltb j i) refl
