-- The concentration matrix is symmetric bit for bit, NaN counting as NaN, since its upper half is a copy of its lower half. Assumes nothing.
use Rattle.std.specs.Prelude.{◌≡◌, List, ◌⊎◌, ℕ, ◌*◌, ◌<◌, get_or, Float}
use Rattle.std.proofs.Math.Path.{sym}
use Rattle.std.proofs.Common.{◌∙◌}
use Rattle.std.specs.Float.{nan}
use Rattle.std.specs.Float.Ieee.{neg}
use Rattle.number.specs.Float64.{zero64}
use Rattle.matrix.specs.Matrix.{cell, matrix_of, cell_matrix, matrix_same}
use Rattle.matrix.specs.Layout.{flipped}
use Rattle.region_nodes.specs.Basis.{basis_size}
use Rattle.region_nodes.specs.Regions.{integrals, region_cell, concentration_matrix}
use Rattle.regions.specs.Nodes.{region-symmetric}

module _ (L : ℕ) (weights lats : List Float) (marks : List ℕ) (s c : List Float) (nodes : ℕ) where
  abbrev R : ℕ → ℕ → Float
  R = region_cell L weights lats marks s c nodes

  abbrev D : List Float
  D = concentration_matrix L weights lats marks s c nodes

  -- by rows and by columns it is the same
  pub matrix_flipped : (n : ℕ) → matrix_of n (flipped R) ≡ matrix_of n R
  unfolding flipped
  matrix_flipped n = matrix_same n (flipped R) R (λ i j h g. region-symmetric L weights lats marks s c nodes j i)

  pub matrix_symmetric : (i j : ℕ) → i < basis_size L → j < basis_size L → cell (basis_size L) D i j ≡ cell (basis_size L) D j i
  unfolding concentration_matrix
  matrix_symmetric i j h g =
      cell_matrix (basis_size L) R i j h g
      ∙ region-symmetric L weights lats marks s c nodes i j
      ∙ sym (cell_matrix (basis_size L) R j i g h)

  -- in the words of the request: where the integral of sin 0λ is a zero, +0 or −0, in every node. The law above does without: it is not needed.
  pub symmetric_where_zero : ((ν : ℕ) → ν < nodes → (get_or c (ν * integrals L) nan ≡ zero64) ⊎ (get_or c (ν * integrals L) nan ≡ neg zero64))
      → (i j : ℕ) → i < basis_size L → j < basis_size L → cell (basis_size L) D i j ≡ cell (basis_size L) D j i
  symmetric_where_zero z = matrix_symmetric
