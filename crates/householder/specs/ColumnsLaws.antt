-- What the passes over a matrix that is held column by column make of the matrix. Assumes nothing.
use Rattle.std.specs.Prelude.{◌≡◌, Bool, List, ℕ, ◌+◌, ◌-◌, ◌*◌, ◌≤◌, ◌<◌, leb, length, drop, Float}
use Rattle.std.proofs.Math.Path.{refl, sym, ap, ap₂}
use Rattle.std.proofs.Common.{subst, ◌∙◌, le_refl, zero-add, mul-le-mul_right, add-sub_of_le}
use Rattle.std.proofs.Math.Bool.{true, false}
use native.Mathlib.Omega.{arith}
use Rattle.std.proofs.Math.ListN.{get_or}
use Rattle.std.specs.Float.Ieee.{nan}
use borrow.Author.Tests.{leb-true, leb-false}
use Rattle.number.specs.Float64.{◌⊕◌, ◌⊖◌, ◌⊗◌, ◌⊘◌, two64}
use Rattle.storage.specs.Elements.{from, from_zero, zero_at}
use Rattle.storage.specs.Fill.{drop-fill}
use Rattle.storage.specs.Filled.{Filled, filled_to, filled_in, filled_before, filled_after, filled_join, filled_again, filled_same, filled_self}
use Rattle.storage.specs.Rectangle.{by_rows, by_row, by_rows_more, by_rows_at}
use Rattle.matrix.specs.Matrix.{cell, matrix_same, cell-within}
use Rattle.matrix.specs.Layout.{flipped, transposed, cell-transposed, Kept, filled_kept}
use Rattle.householder.specs.Reduction.{dot, norm, less_alpha, householder_vector, product, correction}
use Rattle.householder.specs.Reduction.{reflected_cell, reflected, accumulated_cell, accumulated}
use Rattle.householder.specs.ReductionLaws.{Agree, dot_none, dot_more, dot_same, norm_same}
use Rattle.householder.specs.Columns.{quotient, plus_multiple, plus_four, less_multiple, columns_product}
use Rattle.householder.specs.Columns.{updated_run, updated_columns, accumulated_run, accumulated_columns}

-- places in rows of n numbers
rows_after : (n lo : ℕ) → lo ≤ n → lo * n + (n - lo) * n ≡ n * n
rows_after n lo h = omega (arith, ap (λ (x : ℕ). x * n) (add-sub_of_le h))

within_rows : {j m n i : ℕ} → j < m → i < n → j * n + i < m * n
within_rows {j} {m} {n} h l = omega (arith, mul-le-mul_right n h)

row_before : {j k : ℕ} (n : ℕ) → j ≤ k → j * n + n ≤ (k + 1) * n
row_before {j} {k} n h = omega (arith, mul-le-mul_right n h)

-- what stands at the front of a list
front_at : {F : ℕ → Float} {n : ℕ} {d l : List Float} → Filled 0 F n d l → n ≤ length d → (i : ℕ) → i < n → get_or l i nan ≡ F i
front_at r b i h = filled_in nan r h (sym (zero-add i)) (omega arith)

pub front_from : {F : ℕ → Float} {n : ℕ} {d l : List Float} → Filled 0 F n d l → n ≤ length d → Agree n (from 0 l nan) F
front_from {l = l} r b i h = from_zero l nan i ∙ front_at r b i h

-- ---- vectors
-- a vector over its norm
pub divided : {n : ℕ} (k : ℕ) (size : Float) (x : ℕ → Float) {s : Float} {d v v' : List Float} → Filled 0 (less_alpha k size x) n d v → n ≤ length d
    → s ≡ norm (from 0 v nan) 0 n → Filled 0 (quotient s v) n v v' → Filled 0 (householder_vector n k size x) n d v'
unfolding quotient householder_vector
divided {n} k size x {v = v} r b e q =
    let m = e ∙ norm_same (from 0 v nan) (less_alpha k size x) 0 n (front_from r b) in
    filled_same (householder_vector n k size x) (filled_again r q (le_refl n)) (λ i h. ap₂ (λ (y z : Float). y ⊘ z) (front_at r b i h) m)

-- ---- products
module _ (n lo : ℕ) (w v : List Float) where
  pub product_none : {d p : List Float} → Filled 0 zero_at n d p → Filled 0 (columns_product n lo lo w v) n p p
  unfolding columns_product
  product_none r = filled_same (columns_product n lo lo w v) (filled_self r) (λ i h. sym (dot_none (flipped (cell n w) i) (from 0 v nan) lo))

  -- one column more, in one number of the product
  term_more : (i j at : ℕ) {s u : Float} → s ≡ columns_product n lo j w v i → lo ≤ j → at ≡ j * n → u ≡ get_or v j nan
      → s ⊕ get_or w (at + i) nan ⊗ u ≡ columns_product n lo (j + 1) w v i
  unfolding columns_product flipped cell
  term_more i j at {s} e h p q =
      ap₂ (λ (m : ℕ) (x : Float). s ⊕ get_or w (m + i) nan ⊗ x) p (q ∙ sym (from_zero v nan j))
      ∙ dot_more (flipped (cell n w) i) (from 0 v nan) lo j e h

  -- and in all of them
  pub product_more : {j at : ℕ} {d p p' : List Float} → Filled 0 (columns_product n lo j w v) n d p → n ≤ length d → lo ≤ j → at ≡ j * n
      → Filled 0 (plus_multiple at (get_or v j nan) w p) n p p' → Filled 0 (columns_product n lo (j + 1) w v) n d p'
  unfolding plus_multiple
  product_more {j} {at} r b h e s =
      filled_same (columns_product n lo (j + 1) w v) (filled_again r s (le_refl n)) (λ i l. term_more i j at (front_at r b i l) h e refl)

  -- four columns more
  pub product-four : {j at : ℕ} {d p p' : List Float} → Filled 0 (columns_product n lo j w v) n d p → n ≤ length d → lo ≤ j → at ≡ j * n
      → Filled 0 (plus_four n at (get_or v j nan) (get_or v (j + 1) nan) (get_or v (j + 2) nan) (get_or v (j + 3) nan) w p) n p p'
      → Filled 0 (columns_product n lo (j + 4) w v) n d p'
  unfolding plus_four plus_multiple
  product-four {j} {at} r b h e s =
      let two : j + 1 + 1 ≡ j + 2 = omega arith in
      let three : j + 1 + 1 + 1 ≡ j + 3 = omega arith in
      let four : j + 1 + 1 + 1 + 1 ≡ j + 4 = omega arith in
      filled_same (columns_product n lo (j + 4) w v) (filled_again r s (le_refl n))
      (λ i l.
      let a1 = term_more i j at (front_at r b i l) h e refl in
      let a2 = term_more i (j + 1) (at + n) a1 (omega arith) (omega arith) refl in
      let a3 = term_more i (j + 1 + 1) (at + n + n) a2 (omega arith) (omega arith) (ap (λ (m : ℕ). get_or v m nan) (sym two)) in
      let a4 = term_more i (j + 1 + 1 + 1) (at + n + n + n) a3 (omega arith) (omega arith) (ap (λ (m : ℕ). get_or v m nan) (sym three)) in
      a4 ∙ ap (λ (m : ℕ). columns_product n lo m w v i) four)

  -- as many columns, said otherwise
  pub product_to : {j m : ℕ} {d p : List Float} → Filled 0 (columns_product n lo j w v) n d p → j ≡ m → Filled 0 (columns_product n lo m w v) n d p
  product_to {d = d} {p} r e = subst (λ (m : ℕ). Filled 0 (columns_product n lo m w v) n d p) e r

-- ---- the matrix in the columns
cell_in : (n : ℕ) (w : List Float) (i j : ℕ) → i < n → j < n → cell n (transposed n w) i j ≡ get_or w (j * n + i) nan
unfolding cell
cell_in n w i j h l = cell-transposed n w i j h l

-- columns that are written one after the other
module _ (n j : ℕ) {at : ℕ} {w w' : List Float} where
  pub updated_more : (v q d : List Float) → Filled 0 (by_rows (updated_columns n v q d) n) (j * n) d w → at ≡ j * n
      → Filled at (updated_run at (get_or v j nan) (get_or q j nan) v q w) n w w' → Filled 0 (by_rows (updated_columns n v q d) n) ((j + 1) * n) d w'
  unfolding updated_columns updated_run
  updated_more v q d r e s =
      by_rows_more (updated_columns n v q d) n j r
      (filled_same (updated_columns n v q d j) s
      (λ i h.
      ap (λ (y : Float). y ⊖ two64 ⊗ (get_or v i nan ⊗ get_or q j nan ⊕ get_or q i nan ⊗ get_or v j nan))
      (filled_after (at + i) nan r (omega arith) ∙ ap (λ (m : ℕ). get_or d (m + i) nan) e)))
      refl e

  pub accumulated_more : (lo : ℕ) (v p d : List Float) → Filled (lo * n) (by_rows (accumulated_columns n lo v p d) n) (j * n) d w → at ≡ (lo + j) * n
      → Filled at (accumulated_run at (get_or v (lo + j) nan) p w) n w w' → Filled (lo * n) (by_rows (accumulated_columns n lo v p d) n) ((j + 1) * n) d w'
  unfolding accumulated_columns accumulated_run
  accumulated_more lo v p d r e s =
      let column = accumulated_columns n lo v p d in
      filled_to
      (filled_join r
      (filled_same (column j) s
      (λ i h.
      ap (λ (y : Float). y ⊖ two64 ⊗ get_or p i nan ⊗ get_or v (lo + j) nan)
      (filled_after (at + i) nan r (omega arith) ∙ ap (λ (m : ℕ). get_or d (m + i) nan) e)))
      (omega arith) (λ i h. by_row column n j i h))
      (omega arith)

module _ (n k : ℕ) (v w : List Float) (room : n * n ≤ length w) where
  -- p = Av
  product_at : {d p : List Float} → Filled 0 (columns_product n (k + 1) n w v) n d p → n ≤ length d
      → Agree n (from 0 p nan) (product n k (transposed n w) (from 0 v nan))
  unfolding columns_product product flipped cell
  product_at r b i h =
      front_from r b i h
      ∙ dot_same (flipped (cell n w) i) (cell n (transposed n w) i) (from 0 v nan) (from 0 v nan) (k + 1) n (λ j l. sym (cell_in n w i j h l)) (λ j l. refl)

  pub columns_reflected : {vp : Float} {d p p' w' : List Float} → Filled 0 (columns_product n (k + 1) n w v) n d p → n ≤ length d
      → vp ≡ dot (from 0 v nan) (from 0 p nan) (k + 1) n → Filled 0 (less_multiple vp v p) n p p'
      → Filled 0 (by_rows (updated_columns n v p' w) n) (n * n) w w' → (transposed n w' ≡ reflected n k (transposed n w) (from 0 v nan)) × Kept (n * n) w w'
  unfolding reflected reflected_cell correction transposed flipped cell less_multiple updated_columns updated_run
  columns_reflected {vp} {d} {p} {p'} {w'} r b e s u =
      let m = transposed n w in
      let vf = from 0 v nan in
      let pf = product n k m vf in
      let qf = correction n k vf pf in
      let c = e ∙ dot_same vf vf (from 0 p nan) pf (k + 1) n (λ i h. refl) (product_at r b) in
      let q : (i : ℕ) → i < n → get_or p' i nan ≡ qf i =
      λ i h.
      front_at s (omega (arith, r.long)) i h
      ∙ ap₂ (λ (x y : Float). x ⊖ y) (sym (from_zero p nan i) ∙ product_at r b i h) (ap₂ (λ (x y : Float). x ⊗ y) c (sym (from_zero v nan i))) in (
        matrix_same n (flipped (cell n w')) (reflected_cell n m vf qf)
            (λ i j h l.
            by_rows_at (updated_columns n v p' w) n j i nan u h (cell-within n j i l h) room
            ∙ ap₂ (λ (x y : Float). x ⊖ two64 ⊗ y) (sym (cell_in n w i j h l))
            (ap₂ (λ (x y : Float). x ⊕ y) (ap₂ (λ (x y : Float). x ⊗ y) (sym (from_zero v nan i)) (q j l))
            (ap₂ (λ (x y : Float). x ⊗ y) (q i h) (sym (from_zero v nan j))))),
        filled_kept u,
      )

  -- the numbers of a column after k
  module _ {d p w' : List Float} (r : Filled 0 (columns_product n (k + 1) n w v) n d p) (b : n ≤ length d) (below : k < n)
      (u : Filled ((k + 1) * n) (by_rows (accumulated_columns n (k + 1) v p w) n) ((n - (k + 1)) * n) w w') where
    column_after : (i j : ℕ) → i < n → k + 1 + j < n
        → get_or w' ((k + 1 + j) * n + i) nan
        ≡ cell n (transposed n w) i (k + 1 + j) ⊖ two64 ⊗ product n k (transposed n w) (from 0 v nan) i ⊗ from 0 v nan (k + 1 + j)
    unfolding accumulated_columns accumulated_run
    column_after i j h l =
        let column = accumulated_columns n (k + 1) v p w in
        let inside : j * n + i < (n - (k + 1)) * n = within_rows (omega arith) h in
        let place = cell-within n (k + 1 + j) i l h in
        filled_in nan u inside (omega arith) (omega arith)
        ∙ by_row column n j i h
        ∙ ap₂ (λ (x y : Float). x ⊖ y) (sym (cell_in n w i (k + 1 + j) h l))
        (ap₂ (λ (x y : Float). two64 ⊗ x ⊗ y) (sym (from_zero p nan i) ∙ product_at r b i h) (sym (from_zero v nan (k + 1 + j))))

    column_at : (i j : ℕ) → i < n → j < n → (c : Bool) → leb j k ≡ c
        → get_or w' (j * n + i) nan ≡ accumulated_cell n k (transposed n w) (from 0 v nan) i j
    unfolding accumulated_cell
    column_at i j h l true e =
        let before = row_before n (leb-true j k e) in
        rw e (filled_before (j * n + i) nan u (omega arith) ∙ sym (cell_in n w i j h l))
    column_at i j h l false e =
        let g = leb-false j k e in
        let after : k + 1 + (j - (k + 1)) ≡ j = omega arith in
        rw e
        (subst
        (λ (m : ℕ).
        get_or w' (m * n + i) nan ≡ cell n (transposed n w) i m ⊖ two64 ⊗ product n k (transposed n w) (from 0 v nan) i ⊗ from 0 v nan m)
        after (column_after i (j - (k + 1)) h (omega arith)))

    pub columns_accumulated : (transposed n w' ≡ accumulated n k (transposed n w) (from 0 v nan)) × Kept (n * n) w w'
    unfolding accumulated transposed flipped cell
    columns_accumulated =
        let column = accumulated_columns n (k + 1) v p w in
        let end = rows_after n (k + 1) (omega arith) in (
          matrix_same n (flipped (cell n w')) (accumulated_cell n k (transposed n w) (from 0 v nan)) (λ i j h l. column_at i j h l (leb j k) refl),
          record {
            behind = ap (drop (n * n)) u.is ∙ drop-fill ((k + 1) * n) (by_rows column n) ((n - (k + 1)) * n) (n * n) w (omega arith);
            long = u.long;
          },
        )
