-- Document 01's marked values: one table, one theorem. Assumes nothing.
use Rattle.std.specs.Prelude.{◌≡◌, refl, List, [], ◌∷◌, ℕ, get_or, Float}
use Rattle.std.specs.Float.{nan}
use Rattle.std.specs.Float.Ieee.{of_bits, of_int, neg, add, sub, mul, div, le, lt, eq, is_nan}
use Rattle.number.specs.Float64.{double, one64}
use Rattle.number.specs.Root.{root_of, square_root}
use Rattle.number.specs.Sign.{is_infinite, magnitude_of}
use Rattle.number.specs.Hypot.{hypot_of, long_of, of_sizes}
use Rattle.number.specs.Power.{power_of, power_turns, times_if_odd, square_unless_zero}
use Rattle.functional.specs.Factor.{factor_of}
use Rattle.functional.specs.declared.Functional.TheVariants.{Potential, GravityAnomaly, RadialGradient}
use Rattle.storage.specs.Triangle.{idx, row_start}
use Rattle.storage.specs.Iterate.{turns, iterate, iterate_until}
use Rattle.storage.specs.Tabulate.{tabulate, values}
use Rattle.storage.specs.Rectangle.{by_rows}
use Rattle.matrix.specs.Matrix.{cell, matrix_of, kronecker, identity, diagonal_cell, diagonal}
use Rattle.jacobi.specs.Jacobi.{add_square, squares, add_off_square, add_off_row, off_squares, is_small, sweep_unless_small, settled_in, matrix_in, product_in}
use Rattle.jacobi.specs.Jacobi.{sweeps, jacobi, jacobi_values, jacobi_vectors}
use Rattle.linalg.specs.Eigen.{eigen_values, eigen_vectors}
use Rattle.quadrature.specs.Gauss.{bonnet_turn, legendre, corrected, newton_step, legendre_root, upper_node, upper_weight, gauss_node, gauss_weight}

-- a value is a double or a whole number
pub data Value : Type 0 where
  number : Float → Value
  whole : ℕ → Value

-- what is worked out, and what it must be
abbrev pub Row : Type 0
Row = Value × Value

abbrev pub worked : List Row → List Value
worked [] = []
worked (r ∷ l) = r.0 ∷ worked l

abbrev pub stated : List Row → List Value
stated [] = []
stated (r ∷ l) = r.1 ∷ stated l

abbrev two : Float
two = double 0x4000_0000_0000_0000

abbrev seven : Float
seven = double 0x401c_0000_0000_0000

abbrev eight : Float
eight = double 0x4020_0000_0000_0000

-- doubles by their bit patterns
unfoldable pub table : List Row
table =
    -- the root of 4 is 2; of 2 has the bits 3FF6A09E667F3BCD; of −0 is −0; of 2^−1074 is 2^−537
    (number (root_of (double 0x4010_0000_0000_0000)), number two)
    ∷ (number (root_of two), number (double 0x3ff6_a09e_667f_3bcd))
    ∷ (number (root_of (double 0x8000_0000_0000_0000)), number (double 0x8000_0000_0000_0000))
    ∷ (number (root_of (double 0x0000_0000_0000_0001)), number (double 0x1e60_0000_0000_0000))
    -- the hypot of 3 and 4 is 5
    ∷ (number (hypot_of (double 0x4008_0000_0000_0000) (double 0x4010_0000_0000_0000)), number (double 0x4014_0000_0000_0000))
    -- pair (2, 1) stands at 4
    ∷ (whole (idx 2 1), whole 4)
    -- with gm 8: Potential at n 3, radius 1, r 2 is 0.5
    ∷ (number (factor_of Potential [] eight one64 two 3), number (double 0x3fe0_0000_0000_0000))
    -- GravityAnomaly at radius 2, r 2 and n 0, 1, 2 is −2, 0 and 2; RadialGradient at n 0, radius 2, r 2 is 2
    ∷ (number (factor_of GravityAnomaly [] eight two two 0), number (double 0xc000_0000_0000_0000))
    ∷ (number (factor_of GravityAnomaly [] eight two two 1), number (double 0))
    ∷ (number (factor_of GravityAnomaly [] eight two two 2), number two)
    ∷ (number (factor_of RadialGradient [] eight two two 0), number two)
    -- Gauss with n 1 and guess 2^−54 has node +0 and weight 2
    ∷ (number (gauss_node (λ i. double 0x3c90_0000_0000_0000) 1 0), number (double 0))
    ∷ (number (gauss_weight (λ i. double 0x3c90_0000_0000_0000) 1 0), number two)
    -- the one-cell matrix 7 has value 7 and vector 1
    ∷ (number (get_or (eigen_values 1 (seven ∷ [])) 0 nan), number seven)
    ∷ (number (get_or (eigen_vectors 1 (seven ∷ [])) 0 nan), number one64)
    ∷ []

pub marked : worked table ≡ stated table
unfolding table gauss_node gauss_weight upper_node upper_weight legendre_root newton_step corrected legendre bonnet_turn iterate_until iterate turns neg le square_root
    hypot_of long_of of_sizes is_infinite magnitude_of is_nan row_start factor_of power_of power_turns times_if_odd square_unless_zero of_bits of_int add sub mul div lt eq
    eigen_values eigen_vectors jacobi_values jacobi_vectors jacobi sweeps matrix_in product_in settled_in sweep_unless_small is_small off_squares add_off_row add_off_square
    squares add_square diagonal diagonal_cell identity kronecker matrix_of cell by_rows tabulate values
marked = refl
