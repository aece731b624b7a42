-- A matrix of 3 by 3 numbers that is not symmetric, with the bits that the Rust makes of it. Assumes nothing.
use Rattle.std.specs.Prelude.{◌≡◌, refl, List, [], ◌∷◌, ℕ, Float}
use Rattle.std.specs.Float.Ieee.{neg, of_bits, add, sub, mul, div, le, eq}
use Rattle.number.specs.Float64.{double}
use Rattle.number.specs.Root.{square_root, root_of_units, floor_root, or_next}
use Rattle.storage.specs.Tabulate.{tabulate, values}
use Rattle.storage.specs.Iterate.{iterate, turns}
use Rattle.storage.specs.Rectangle.{by_rows}
use Rattle.matrix.specs.Matrix.{cell, matrix_of, kronecker, identity, diagonal_cell, diagonal}
use Rattle.householder.specs.Reduction.{add_product, dot, norm, less_alpha_at, less_alpha, householder_vector, column_of, product, correction}
use Rattle.householder.specs.Reduction.{reflected_cell, reflected, accumulated_cell, accumulated, reflection, reductions, tridiagonal}
use Rattle.householder.specs.Reduction.{subdiagonal_cell}

-- the numbers with these bit patterns
abbrev doubles : List ℕ → List Float
doubles [] = []
doubles (b ∷ l) = double b ∷ doubles l

-- the rows 2, -3, 4; 3, 1, 0.5; -4, 7, -6
abbrev given : List Float
given =
    doubles
    (0x4000_0000_0000_0000 ∷ 0xc008_0000_0000_0000 ∷ 0x4010_0000_0000_0000 ∷
    0x4008_0000_0000_0000 ∷ 0x3ff0_0000_0000_0000 ∷ 0x3fe0_0000_0000_0000 ∷
    0xc010_0000_0000_0000 ∷ 0x401c_0000_0000_0000 ∷ 0xc018_0000_0000_0000 ∷ [])

-- its diagonal, its subdiagonal and the orthogonal matrix
three : ◌≡◌ {A = List Float × List Float × List Float} (
  diagonal 3 (tridiagonal 3 given).matrix,
  tabulate (subdiagonal_cell 3 (tridiagonal 3 given).matrix) 0 3,
  (tridiagonal 3 given).orthogonal,
) (
  doubles (0x4000_0000_0000_0000 ∷ 0xc028_8f5c_28f5_c28f ∷ 0x401d_1eb8_51eb_851e ∷ []),
  doubles (0x4026_0000_0000_0000 ∷ 0xc007_ae14_7ae1_47ac ∷ 0 ∷ []),
  doubles
      (0x3ff0_0000_0000_0000 ∷ 0 ∷ 0 ∷
      0 ∷ 0xbfe3_3333_3333_3332 ∷ 0x3fe9_9999_9999_9999 ∷
      0 ∷ 0x3fe9_9999_9999_9999 ∷ 0x3fe3_3333_3333_3334 ∷ []),
)
unfolding tridiagonal reductions reflection accumulated accumulated_cell reflected reflected_cell correction product column_of householder_vector less_alpha
    less_alpha_at norm dot add_product subdiagonal_cell diagonal diagonal_cell identity kronecker matrix_of cell by_rows iterate turns tabulate values square_root
    root_of_units floor_root or_next of_bits neg add sub mul div le eq
three = refl
