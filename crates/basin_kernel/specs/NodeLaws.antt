-- A table of the kernel as the nodes are added to it, and divided by 4π. Assumes nothing.
use Rattle.std.specs.Prelude.{◌≡◌, Bool, true, false, cond, ◌&&◌, List, ltb, length, get_or, Float}
use Rattle.std.proofs.Math.Path.{refl, sym, ap}
use Rattle.std.proofs.Common.{subst, ◌∙◌, zero-add, le_refl, le-ltb, eq-eqb, ne_eqb}
use Prim.Native.Nat.{ℕ, zero, suc, ◌+◌, ◌-◌, ◌*◌, ◌≤◌, zero-le}
use Rattle.std.proofs.Math.Nat.{add-zero}
use native.Mathlib.Omega.{arith}
use Rattle.std.proofs.Math.Dec.{eqb}
use Rattle.std.specs.Float.Ieee.{nan, of_bits, div}
use Rattle.number.specs.Float64.{◌⊕◌, ◌⊗◌, ◌⊘◌, zero64}
use Rattle.storage.specs.Elements.{zero_at, from}
use Rattle.storage.specs.Filled.{Filled, filled_in, filled_to, filled_same, filled_again, filled_standing}
use Rattle.storage.specs.Iterate.{iterate, iterate_done, iterate_last}
use Rattle.storage.specs.Triangle.{idx, table_size, along, cells, cells_along, along_same, idx-within, rows_at}
use Rattle.legendre.specs.Directions.{legendre_row}
use Rattle.region_nodes.specs.Regions.{even_at, odd_at, half, longitude_product, integrals, four_pi}
use Rattle.regions.specs.Mirror.{over_four_pi}
use Rattle.basin_kernel.specs.Kernel.{kernel_term, add_term, kernel_at}
use Rattle.basin_kernel.specs.Rows.{added_cell}
use Rattle.basin_kernel.specs.Nodes.{node_added, kernel_sum}

either_same : (b : Bool) (x : Float) → cond b x x ≡ x
either_same true x = refl
either_same false x = refl

added_either : (b : Bool) (f : Float → Float) (x y z : Float) → x ≡ cond b zero64 y → f y ≡ z → cond b x (f x) ≡ cond b zero64 z
added_either true f x y z e g = e
added_either false f x y z e g = ap f e ∙ g

-- 0 over 4π is 0
divided_either : (b : Bool) (x : Float) → cond b zero64 x ⊘ four_pi ≡ cond b zero64 (x ⊘ four_pi)
unfolding of_bits div
divided_either true x = refl
divided_either false x = refl

module _ (L : ℕ) (weights lats : List Float) (marks : List ℕ) (s c : List Float) where
  -- ---- one node
  module _ (sine : Bool) (ν : ℕ) (d : List Float) where
    skipped_cell : get_or marks ν 0 ≡ 0 → (l m : ℕ) → node_added L weights lats marks s c sine ν d l m ≡ cells d nan l m
    unfolding node_added add_term
    skipped_cell e l m = rw (eq-eqb (get_or marks ν 0) 0 e) (either_same (sine && eqb m 0) (cells d nan l m))

    -- a node that is marked 0 leaves the table
    pub node_skipped : get_or marks ν 0 ≡ 0 → Filled 0 (along (node_added L weights lats marks s c sine ν d)) (table_size L) d d
    node_skipped e =
        filled_standing nan 0 d (table_size L)
        (λ k h.
        ap (λ (i : ℕ). get_or d i nan) (zero-add k)
        ∙ sym (cells_along d nan k)
        ∙ sym (along_same (node_added L weights lats marks s c sine ν d) (cells d nan) L (λ l m b g. skipped_cell e l m) k h))

    added-cell : (first : ℕ) {w : Float} (P : ℕ → ℕ → Float) (f : ℕ → Float) → (get_or marks ν 0 ≡ 0 → ⊥) → (l m : ℕ) → ltb m first ≡ sine && eqb m 0
        → w ≡ get_or weights ν nan → P l m ≡ legendre_row lats ν l m
        → half ⊗ (f m ⊕ f m) ≡ longitude_product (from (ν * integrals L) s nan) (from (ν * integrals L) c nan) m sine 0 false
        → added_cell first w P f d l m ≡ node_added L weights lats marks s c sine ν d l m
    unfolding node_added add_term added_cell kernel_term
    added-cell first P f k l m t ew ep ef = rw (ne_eqb (get_or marks ν 0) 0 k, t, ew, ep, ef) refl

  product_cosine : (f g : ℕ → Float) (m : ℕ) → half ⊗ (f m ⊕ f m) ≡ longitude_product f g m false 0 false
  unfolding longitude_product even_at
  product_cosine f g m = let e : m - 0 ≡ m = omega arith in rw (le-ltb m 0 zero-le, e, add-zero m) refl

  product_sine : (f g : ℕ → Float) (m : ℕ) → half ⊗ (g m ⊕ g m) ≡ longitude_product f g m true 0 false
  unfolding longitude_product odd_at
  product_sine f g m = let e : m - 0 ≡ m = omega arith in rw (le-ltb m 0 zero-le, e, add-zero m) refl

  order_zero : (m : ℕ) → ltb m 1 ≡ eqb m 0
  order_zero zero = refl
  order_zero (suc m) = le-ltb (suc m) 1 (omega arith) ∙ sym (ne_eqb (suc m) 0 (λ e. omega arith))

  -- any other is added, to the cosines' table and to the sines'
  module _ (ν : ℕ) {at : ℕ} {w : Float} (P : ℕ → ℕ → Float) {d l : List Float} (k : get_or marks ν 0 ≡ 0 → ⊥) (ew : w ≡ get_or weights ν nan)
      (ep : (n m : ℕ) → m ≤ n → n ≤ L → P n m ≡ legendre_row lats ν n m) (ea : at ≡ ν * integrals L) where
    pub node_cosines : Filled 0 (along (added_cell 0 w P (from at s nan) d)) (table_size L) d l
        → Filled 0 (along (node_added L weights lats marks s c false ν d)) (table_size L) d l
    node_cosines r =
        let f = from (ν * integrals L) s nan in
        let g = from (ν * integrals L) c nan in
        filled_same (along (node_added L weights lats marks s c false ν d))
        (subst (λ (i : ℕ). Filled 0 (along (added_cell 0 w P (from i s nan) d)) (table_size L) d l) ea r)
        (along_same (added_cell 0 w P f d) (node_added L weights lats marks s c false ν d) L
        (λ n m h b. added-cell false ν d 0 P f k n m (le-ltb m 0 zero-le) ew (ep n m h b) (product_cosine f g m)))

    pub node_sines : Filled 0 (along (added_cell 1 w P (from at c nan) d)) (table_size L) d l
        → Filled 0 (along (node_added L weights lats marks s c true ν d)) (table_size L) d l
    node_sines r =
        let f = from (ν * integrals L) s nan in
        let g = from (ν * integrals L) c nan in
        filled_same (along (node_added L weights lats marks s c true ν d))
        (subst (λ (i : ℕ). Filled 0 (along (added_cell 1 w P (from i c nan) d)) (table_size L) d l) ea r)
        (along_same (added_cell 1 w P g d) (node_added L weights lats marks s c true ν d) L
        (λ n m h b. added-cell true ν d 1 P g k n m (order_zero m) ew (ep n m h b) (product_sine f g m)))

  -- ---- all nodes
  module _ (sine : Bool) where
    abbrev sum : ℕ → ℕ → ℕ → Float
    sum = kernel_sum L weights lats marks s c sine

    none_cell : (l m : ℕ) → zero64 ≡ sum 0 l m
    unfolding kernel_sum
    none_cell l m =
        sym
        (ap (cond (sine && eqb m 0) zero64) (iterate_done (add_term L weights lats marks s c sine l m) 0 0 zero64 (le_refl 0))
        ∙ either_same (sine && eqb m 0) zero64)

    -- with no node added, the table is zeros
    pub sums_none : {d : List Float} → Filled 0 zero_at (table_size L) d d → Filled 0 (along (sum 0)) (table_size L) d d
    unfolding along
    sums_none z = filled_same (along (sum 0)) z (λ k h. none_cell _ _)

    more_cell : (ν : ℕ) (d : List Float) (l m : ℕ) → cells d nan l m ≡ sum ν l m → node_added L weights lats marks s c sine ν d l m ≡ sum (ν + 1) l m
    unfolding node_added kernel_sum
    more_cell ν d l m e =
        let f = add_term L weights lats marks s c sine l m in
        added_either (sine && eqb m 0) (f ν) _ _ _ e (iterate_last f 0 ν zero64 zero-le)

    -- node ν added to those below it
    pub sums_more : (ν : ℕ) {d l l' : List Float} → table_size L ≤ length d → Filled 0 (along (sum ν)) (table_size L) d l
        → Filled 0 (along (node_added L weights lats marks s c sine ν l)) (table_size L) l l' → Filled 0 (along (sum (ν + 1))) (table_size L) d l'
    unfolding cells
    sums_more ν {d} {l} room below new =
        filled_again below
        (filled_same (along (sum (ν + 1))) new
        (along_same (node_added L weights lats marks s c sine ν l) (sum (ν + 1)) L
        (λ n m h b.
        let w = idx-within n m L h b in
        more_cell ν l n m (rows_at (sum ν) n m nan below h (sym (zero-add (idx n m))) w (omega arith)))))
        (le_refl (table_size L))

    divided_cell_lem : (nodes l m : ℕ) → sum nodes l m ⊘ four_pi ≡ kernel_at L weights lats marks s c sine nodes l m
    unfolding kernel_sum kernel_at
    divided_cell_lem nodes l m = divided_either (sine && eqb m 0) (iterate (add_term L weights lats marks s c sine l m) 0 nodes zero64)

    -- and divided
    pub kernel_is : (nodes : ℕ) {size : ℕ} {d x y : List Float} → size ≡ table_size L → table_size L ≤ length d
        → Filled 0 (along (sum nodes)) (table_size L) d x → Filled 0 (over_four_pi x) size x y
        → Filled 0 (along (kernel_at L weights lats marks s c sine nodes)) (table_size L) d y
    unfolding over_four_pi along
    kernel_is nodes {d = d} {x} e room sums quotients =
        filled_again sums
        (filled_same (along (kernel_at L weights lats marks s c sine nodes)) (filled_to quotients e)
        (λ k h.
        ap (λ (v : Float). v ⊘ four_pi) (filled_in {j = k} nan sums h (sym (zero-add k)) (omega arith))
        ∙ divided_cell_lem nodes _ _))
        (le_refl (table_size L))
