-- Eigenvalues and eigenvectors of a symmetric matrix by cyclic Jacobi rotations, in the order of the Rust's operations. Definitions only.
use Rattle.std.specs.Prelude.{Bool, true, false, cond, List, ℕ, ◌+◌, length, get_or, Float}
use Rattle.std.specs.Float.{nan}
use Rattle.std.specs.Float.Ieee.{eq, le}
use Rattle.number.specs.Float64.{◌⊕◌, ◌⊖◌, ◌⊗◌, ◌⊘◌, double, zero64, one64}
use Rattle.number.specs.Sign.{magnitude_of, signum_of}
use Rattle.number.specs.Hypot.{hypot_of}
use Rattle.storage.specs.Iterate.{iterate, iterate_until}
use Rattle.matrix.specs.Matrix.{cell, identity, diagonal, rotate_columns, rotate_rows}

-- the matrix, and the product of the rotations so far
pub data Matrices : Type 0 where
  matrices : (a v : List Float) → Matrices

-- the same, how many sweeps there were, and whether the test before one was met
pub data State : Type 0 where
  state : (m : Matrices) (sweeps : ℕ) (settled : Bool) → State

-- the sum of the squares of all numbers, from +0 and left to right
unfoldable pub add_square : List Float → ℕ → Float → Float
add_square a k t = t ⊕ get_or a k nan ⊗ get_or a k nan

unfoldable pub squares : List Float → Float
squares a = iterate (add_square a) 0 (length a) zero64

-- the sum of the squares above the diagonal, from +0 and row by row; `powi` with exponent 2 is one product, by number's law power-2
unfoldable pub add_off_square : ℕ → List Float → ℕ → ℕ → Float → Float
add_off_square n a p q t = t ⊕ cell n a p q ⊗ cell n a p q

unfoldable pub add_off_row : ℕ → List Float → ℕ → Float → Float
add_off_row n a p t = iterate (add_off_square n a p) (p + 1) n t

unfoldable pub off_squares : ℕ → List Float → Float
off_squares n a = iterate (add_off_row n a) 0 n zero64

-- the rotation by φ that zeroes a_pq: θ = cot 2φ, and t = tan φ, the smaller root of t² + 2θt − 1 = 0
unfoldable pub ratio : ℕ → ℕ → ℕ → List Float → Float
ratio n p q a = (cell n a q q ⊖ cell n a p p) ⊘ (double 0x4000_0000_0000_0000 ⊗ cell n a p q)

abbrev pub tangent : Float → Float
tangent θ = signum_of θ ⊘ (magnitude_of θ ⊕ hypot_of θ one64)

abbrev pub cosine : Float → Float
cosine t = one64 ⊘ hypot_of t one64

-- with the cosine c and the sine s: the columns p and q of the matrix, then its rows p and q, and the columns p and q of the product
unfoldable pub rotate : Float → Float → ℕ → ℕ → ℕ → Matrices → Matrices
rotate c s n p q (matrices a v) = matrices (rotate_rows c s n p q (rotate_columns c s n p q a)) (rotate_columns c s n p q v)

-- the same with the tangent t
unfoldable pub rotate_by : Float → ℕ → ℕ → ℕ → Matrices → Matrices
rotate_by t n p q m = rotate (cosine t) (t ⊗ cosine t) n p q m

-- that rotation, where a_pq is not zero
unfoldable pub rotate_at : ℕ → ℕ → ℕ → Matrices → Matrices
rotate_at n p q (matrices a v) = cond (eq (cell n a p q) zero64) (matrices a v) (rotate_by (tangent (ratio n p q a)) n p q (matrices a v))

-- every p, and to each every q above it
unfoldable pub sweep_row : ℕ → ℕ → Matrices → Matrices
sweep_row n p m = iterate (rotate_at n p) (p + 1) n m

unfoldable pub sweep : ℕ → Matrices → Matrices
sweep n m = iterate (sweep_row n) 0 n m

-- the test: what is above the diagonal is at most 1e-34 of the whole
unfoldable pub is_small : ℕ → Float → Matrices → Bool
is_small n scale (matrices a v) = le (off_squares n a) (double 0x38e0_9d87_92fb_4c49 ⊗ scale)

-- a sweep, unless the test before it is met
unfoldable pub sweep_unless_small : ℕ → Float → State → State
sweep_unless_small n scale (state m k t) = cond (is_small n scale m) (state m k true) (state (sweep n m) (k + 1) t)

-- what a state holds
unfoldable pub settled_in : State → Bool
settled_in (state m k t) = t

unfoldable pub sweeps_in : State → ℕ
sweeps_in (state m k t) = k

unfoldable pub matrix_in : State → List Float
matrix_in (state (matrices a v) k t) = a

unfoldable pub product_in : State → List Float
product_in (state (matrices a v) k t) = v

-- at most 100 sweeps, with the test before each
unfoldable pub sweeps : ℕ → Float → Matrices → State
sweeps n scale m = iterate_until settled_in (sweep_unless_small n scale) 100 (state m 0 false)

-- from the matrix a and the identity
unfoldable pub jacobi : ℕ → List Float → State
jacobi n a = sweeps n (squares a) (matrices a (identity n))

-- the eigenvalues, and the eigenvectors as columns; the number of sweeps, and whether the test before one was met
unfoldable pub jacobi_values : ℕ → List Float → List Float
jacobi_values n a = diagonal n (matrix_in (jacobi n a))

unfoldable pub jacobi_vectors : ℕ → List Float → List Float
jacobi_vectors n a = product_in (jacobi n a)

unfoldable pub jacobi_sweeps : ℕ → List Float → ℕ
jacobi_sweeps n a = sweeps_in (jacobi n a)

unfoldable pub jacobi_settled : ℕ → List Float → Bool
jacobi_settled n a = settled_in (jacobi n a)
