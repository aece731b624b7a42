-- What one turn of the reduction makes of the matrices in two lists, held column by column, and what is read off at the end. Assumes nothing.
use Rattle.std.specs.Prelude.{◌≡◌, Bool, cond, ℕ, zero, suc, ◌+◌, ◌*◌, ◌≤◌, ◌<◌, ltb, length, Float}
use Rattle.std.proofs.Math.Path.{refl, sym, ap}
use Rattle.std.proofs.Common.{ap₂, ◌∙◌, zero-le, arith}
use Rattle.std.proofs.Math.Bool.{true, false}
use mathlib.Core.List.{List}
use Rattle.std.proofs.Math.ListN.{get_or}
use Rattle.std.specs.Float.{nan}
use Rattle.std.specs.Float.Ieee.{eq}
use borrow.Author.Tests.{ltb-true}
use Rattle.number.specs.Float64.{zero64}
use Rattle.storage.specs.Elements.{from}
use Rattle.storage.specs.Filled.{Filled, filled_after, filled_same}
use Rattle.storage.specs.Rectangle.{by_rows}
use Rattle.matrix.specs.Matrix.{cell, kronecker, diagonal_cell, matrix_self}
use Rattle.matrix.specs.Layout.{flipped, transposed, cell-transposed, filled_transposed, identity-transposed}
use Rattle.householder.specs.Reduction.{norm, householder_vector, column_of, reflected, accumulated, Reduction, reduction_of, reflection}
use Rattle.householder.specs.Reduction.{reductions, tridiagonal, subdiagonal_cell}
use Rattle.householder.specs.Columns.{subdiagonal_in}
use Rattle.householder.specs.ReductionLaws.{Agree, norm_same, vector_same, reflected_same, accumulated_same}
use Rattle.householder.specs.ColumnsLaws.{front_from}

module _ (n k : ℕ) (s : Reduction) {size : Float} (e : size ≡ norm (column_of n s.matrix k) (k + 1) n) where
  -- a column that is 0 below the diagonal
  reflection_none : eq size zero64 ≡ true → s ≡ reflection n k s
  unfolding reflection
  reflection_none z = rw (← e, z) refl

  -- any other, by a vector that agrees with the column's Householder vector
  reflection_some : (v : ℕ → Float) → eq size zero64 ≡ false → Agree n v (householder_vector n k size (column_of n s.matrix k))
      → reduction_of (reflected n k s.matrix v) (accumulated n k s.orthogonal v) ≡ reflection n k s
  unfolding reflection
  reflection_some v z h =
      let u = householder_vector n k size (column_of n s.matrix k) in
      rw (← e, z)
      (ap₂ (λ (a q : List Float). reduction_of a q) (reflected_same n k s.matrix v u h) (accumulated_same n k s.orthogonal v u h))

module _ (n k : ℕ) (w q : List Float) {at : ℕ} {size : Float} (p : at ≡ k * n) (h : k < n) (e : size ≡ norm (from at w nan) (k + 1) n) where
  column_in : Agree n (from at w nan) (column_of n (transposed n w) k)
  unfolding from column_of cell
  column_in i l = ap (λ (m : ℕ). get_or w (m + i) nan) p ∙ sym (cell-transposed n w i k l h)

  size_is : size ≡ norm (column_of n (transposed n w) k) (k + 1) n
  size_is = e ∙ norm_same (from at w nan) (column_of n (transposed n w) k) (k + 1) n column_in

  -- what stands in the two lists where the column is 0 below the diagonal
  pub cleared_none : eq size zero64 ≡ true
      → reduction_of (transposed n w) (transposed n q) ≡ reflection n k (reduction_of (transposed n w) (transposed n q))
  cleared_none z = reflection_none n k (reduction_of (transposed n w) (transposed n q)) size_is z

  -- and after the reflection of the column
  pub cleared : {d v a' q' : List Float} → eq size zero64 ≡ false → Filled 0 (householder_vector n k size (from at w nan)) n d v → n ≤ length d
      → a' ≡ reflected n k (transposed n w) (from 0 v nan) → q' ≡ accumulated n k (transposed n q) (from 0 v nan)
      → reduction_of a' q' ≡ reflection n k (reduction_of (transposed n w) (transposed n q))
  cleared {v = v} z f b ea eq' =
      ap₂ (λ (x y : List Float). reduction_of x y) ea eq'
      ∙ reflection_some n k (reduction_of (transposed n w) (transposed n q)) size_is (from 0 v nan) z
      (λ i l. front_from f b i l ∙ vector_same n k size (from at w nan) (column_of n (transposed n w) k) column_in i l)

-- ---- the whole reduction
module _ (n : ℕ) (a : List Float) (square : length a ≡ n * n) where
  -- a matrix that was copied column by column
  transposed_copy : {d l : List Float} → Filled 0 (by_rows (flipped (cell n a)) n) (n * n) d l → n * n ≤ length d → transposed n l ≡ a
  unfolding flipped
  transposed_copy r b = filled_transposed n (flipped (cell n a)) r b ∙ matrix_self n a square

  -- the lists at the start and at the end of all reflections
  pub reduced : {d l d' l' : List Float} {s : Reduction} → Filled 0 (by_rows (flipped (cell n a)) n) (n * n) d l → n * n ≤ length d
      → Filled 0 (by_rows kronecker n) (n * n) d' l' → n * n ≤ length d'
      → s ≡ reductions n (reduction_of (transposed n l) (transposed n l')) → s ≡ tridiagonal n a
  unfolding tridiagonal
  reduced r b r' b' e =
      e ∙ ap (reductions n) (ap₂ (λ (x y : List Float). reduction_of x y) (transposed_copy r b) (identity-transposed n r' b'))

module _ (n : ℕ) (t w : List Float) (e : transposed n w ≡ t) where
  -- the diagonal is read off as it would be row by row
  pub diagonal_of : {d l : List Float} → Filled 0 (diagonal_cell n w) n d l → Filled 0 (diagonal_cell n t) n d l
  unfolding diagonal_cell
  diagonal_of r = filled_same (diagonal_cell n t) r (λ i h. sym (cell-transposed n w i i h h) ∙ ap (λ (x : List Float). cell n x i i) e)

  below : (i : ℕ) (b : Bool) → ltb (i + 1) n ≡ b → subdiagonal_in n w i ≡ subdiagonal_cell n t i
  unfolding subdiagonal_in subdiagonal_cell cell
  below i true h =
      let l = ltb-true (i + 1) n h in
      rw h (sym (cell-transposed n w (i + 1) i l (omega arith)) ∙ ap (λ (x : List Float). cell n x (i + 1) i) e)
  below i false h = rw h refl

  pub subdiagonal_of : {d l : List Float} → Filled 0 (subdiagonal_in n w) n d l → Filled 0 (subdiagonal_cell n t) n d l
  subdiagonal_of r = filled_same (subdiagonal_cell n t) r (λ i h. below i (ltb (i + 1) n) refl)

-- the number below the diagonal in column i is not yet written over when i numbers are
pub subdiagonal_before : (n : ℕ) {F : ℕ → Float} {i : ℕ} {d l : List Float} → Filled 0 F i d l → subdiagonal_in n l i ≡ subdiagonal_in n d i
unfolding subdiagonal_in
subdiagonal_before n {F} {i} r =
    ap (λ (x : Float). cond (ltb (i + 1) n) x zero64) (filled_after (i * n + (i + 1)) nan r (omega arith))

pub le_square : (n : ℕ) → n ≤ n * n
le_square zero = zero-le
le_square (suc n) = omega arith
