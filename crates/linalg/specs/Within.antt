-- A matrix and its eigenvectors inside one list. Assumes nothing.
use Rattle.std.specs.Prelude.{◌≡◌, Bool, List, ℕ, ◌+◌, ◌-◌, ◌*◌, ◌/◌, ◌%◌, ◌≤◌, ◌<◌, length, take, drop, Float}
use Rattle.std.proofs.Math.Path.{sym, ap}
use Rattle.std.proofs.Common.{subst, ◌∙◌, zero-add, mul-le-mul_right, div-add-mod', arith, get_or-drop, length-take-le, lt-ltb}
use Rattle.std.proofs.Math.ListN.{get_or}
use Rattle.std.proofs.Math.Seq.{get_or-take}
use Rattle.std.specs.Float.Ieee.{nan}
use Rattle.storage.specs.Elements.{from}
use Rattle.storage.specs.Filled.{Filled, filled_in, filled_standing}
use Rattle.storage.specs.Rectangle.{by_rows}
use Rattle.matrix.specs.Matrix.{cell, cell-within, row_of, column_of_lem, matrix_same, matrix_self}
use Rattle.matrix.specs.Layout.{flipped, plain, transposed, cell-transposed, filled_transposed, copied_plain}
use Rattle.householder_within.specs.Within.{back, back_behind}
use Rattle.ql.specs.Ql.{state}
use Rattle.ql.specs.QlLaws.{held}
use Rattle.linalg.specs.Eigen.{product_in, householder_ql, householder_vectors, eigen_values, eigen_vectors, eigen_convergence}
use Rattle.matrix.specs.declared.Convergence.{Convergence}
use Rattle.linalg.specs.Sizes.{length_vectors}

-- the columns of the matrix `vectors` stand behind the n by n matrix at the front of w, one after the other
pub record VectorsBehind (n : ℕ) (vectors w : List Float) : Type 0 where
  pub are : Filled (n * n) (by_rows (flipped (cell n vectors)) n) (n * n) w w

-- a matrix that is held column by column behind the one at the front
behind : (n : ℕ) (vectors w : List Float) → transposed n (drop (n * n) w) ≡ vectors → VectorsBehind n vectors w
unfolding by_rows flipped cell
behind n vectors w e = record {
  are =
      filled_standing nan (n * n) w (n * n)
      (λ k h.
      sym (get_or-drop (n * n) w k nan)
      ∙ ap (λ (x : ℕ). get_or (drop (n * n) w) x nan) (sym (div-add-mod' k n))
      ∙ sym (cell-transposed n (drop (n * n) w) (k % n) (k / n) (column_of_lem n k h) (row_of n k h))
      ∙ ap (λ (x : List Float). cell n x (k % n) (k / n)) e);
}

-- after the QL iteration: the part of the list behind the matrix was lent, and came back as the product
pub solved_behind : (n m : ℕ) (w a d e q : List Float) {k : ℕ} {met : Bool} → state (held n d e q) k met ≡ householder_ql n a
    → m ≡ length w - n * n → n * n ≤ length w → length q ≡ length (take m (drop (n * n) w))
    → VectorsBehind n (householder_vectors n a) (back (n * n) m w q)
unfolding householder_vectors product_in
solved_behind n m w a d e q done s h g =
    behind n (householder_vectors n a) (back (n * n) m w q) (ap (transposed n) (back_behind (n * n) m w q s h g) ∙ ap product_in done)

-- ---- apart
-- short arrays hold the matrix
pub short_square : (n : ℕ) → n ≤ 32 → n * n ≤ 1024
short_square n h = omega (arith, mul-le-mul_right n h)

module _ (n : ℕ) (w : List Float) {d a : List Float} (r : Filled 0 (from 0 w nan) (n * n) d a) (h : n * n ≤ length d) where
  -- the copy of the matrix
  copied_front : take (n * n) a ≡ plain n w
  unfolding plain cell from
  copied_front =
      sym (matrix_self n (take (n * n) a) (length-take-le (n * n) a (omega arith)))
      ∙ matrix_same n (cell n (take (n * n) a)) (cell n w)
      (λ i j b g.
      let k = cell-within n i j b g in
      get_or-take (n * n) a (i * n + j) nan k
      ∙ filled_in nan r k (sym (zero-add (i * n + j))) (omega arith)
      ∙ ap (λ (x : ℕ). get_or w x nan) (zero-add (i * n + j)))

  pub apart_values : {values₀ values : List Float} → Filled 0 (from 0 (eigen_values n (take (n * n) a)) nan) n values₀ values
      → Filled 0 (from 0 (eigen_values n (plain n w)) nan) n values₀ values
  apart_values {values₀} {values} f = subst (λ (x : List Float). Filled 0 (from 0 (eigen_values n x) nan) n values₀ values) copied_front f

  pub apart_convergence : {x : Convergence} → x ≡ eigen_convergence n (take (n * n) a) → x ≡ eigen_convergence n (plain n w)
  apart_convergence e = e ∙ ap (eigen_convergence n) copied_front

  -- the vectors, turned to columns in the part of the list that was lent
  pub apart_vectors : (m : ℕ) (w' : List Float) {vectors₀ vectors y : List Float}
      → Filled 0 (from 0 (eigen_vectors n (take (n * n) a)) nan) (n * n) vectors₀ vectors → n * n ≤ length vectors₀
      → Filled 0 (by_rows (flipped (cell n vectors)) n) (n * n) (take m (drop (n * n) w')) y → m ≡ length w' - n * n
      → n * n ≤ length w' → n * n ≤ length (take m (drop (n * n) w')) → VectorsBehind n (eigen_vectors n (plain n w)) (back (n * n) m w' y)
  unfolding plain flipped
  apart_vectors m w' {vectors₀} {vectors} {y} f b turned e g long =
      let are = eigen_vectors n (take (n * n) a) in
      behind n (eigen_vectors n (plain n w)) (back (n * n) m w' y)
      (ap (transposed n) (back_behind (n * n) m w' y e g turned.long)
      ∙ filled_transposed n (flipped (cell n vectors)) turned long
      ∙ copied_plain n are f (length_vectors n (take (n * n) a)) b
      ∙ ap (eigen_vectors n) copied_front)

-- the choice between the methods
pub large_behind : (n : ℕ) (a : List Float) {w : List Float} → 32 < n → VectorsBehind n (householder_vectors n a) w
    → VectorsBehind n (eigen_vectors n a) w
unfolding eigen_vectors
large_behind n a h r = rw (lt-ltb 32 n h) r
