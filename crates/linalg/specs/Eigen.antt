-- Eigenvalues and eigenvectors of a symmetric matrix by the method that its size asks for, and the checks of the calls. Definitions only.
use Rattle.std.specs.Prelude.{Bool, cond, not, List, ℕ, ◌+◌, ◌*◌, ltb, eqb, Float, Ok, Result, ⊤}
use Rattle.refusal.specs.Numbers.{refuse}
use Rattle.refusal.specs.declared.Refusal.TheVariants.{Size, Length, Space}
use Rattle.storage.specs.Tabulate.{tabulate}
use Rattle.matrix.specs.Matrix.{diagonal}
use Rattle.jacobi.specs.Jacobi.{jacobi_values, jacobi_vectors, jacobi_sweeps, jacobi_settled}
use Rattle.householder.specs.Reduction.{Reduction, subdiagonal_cell}
use Rattle.householder.specs.Reduction.{tridiagonal as reduction}
use Rattle.ql.specs.Ql.{Tridiagonal, tridiagonal, State, state, iteration, settled_in, rounds_in}
use Rattle.matrix.specs.declared.Convergence.{Convergence}
use Rattle.refusal.specs.declared.Refusal.{Refusal}

-- the n numbers below the diagonal, the last of them 0
unfoldable pub subdiagonal : ℕ → List Float → List Float
subdiagonal n a = tabulate (subdiagonal_cell n a) 0 n

-- a reduced matrix, as the QL iteration takes it
unfoldable pub tridiagonal_of : ℕ → Reduction → Tridiagonal
tridiagonal_of n s = tridiagonal (diagonal n s.matrix) (subdiagonal n s.matrix) s.orthogonal

-- what a state of the QL iteration holds
unfoldable pub diagonal_in : State → List Float
diagonal_in (state (tridiagonal d e q) k t) = d

unfoldable pub product_in : State → List Float
product_in (state (tridiagonal d e q) k t) = q

-- the Householder reduction of the matrix a, and then the QL iteration
unfoldable pub householder_ql : ℕ → List Float → State
householder_ql n a = iteration n (tridiagonal_of n (reduction n a))

-- the eigenvalues, and the eigenvectors as columns; the number of rounds, and whether every stopping test was met
unfoldable pub householder_values : ℕ → List Float → List Float
householder_values n a = diagonal_in (householder_ql n a)

unfoldable pub householder_vectors : ℕ → List Float → List Float
householder_vectors n a = product_in (householder_ql n a)

unfoldable pub householder_rounds : ℕ → List Float → ℕ
householder_rounds n a = rounds_in (householder_ql n a)

unfoldable pub householder_settled : ℕ → List Float → Bool
householder_settled n a = settled_in (householder_ql n a)

-- above n = 32 by reduction and QL iteration, up to it by Jacobi rotations
unfoldable pub eigen_values : ℕ → List Float → List Float
eigen_values n a = cond (ltb 32 n) (householder_values n a) (jacobi_values n a)

unfoldable pub eigen_vectors : ℕ → List Float → List Float
eigen_vectors n a = cond (ltb 32 n) (householder_vectors n a) (jacobi_vectors n a)

-- how a solver ends: whether it settled, and its count
abbrev pub convergence : Bool → ℕ → Convergence
convergence settled count = record { settled = settled; count = count }

unfoldable pub householder_convergence : ℕ → List Float → Convergence
householder_convergence n a = convergence (householder_settled n a) (householder_rounds n a)

unfoldable pub jacobi_convergence : ℕ → List Float → Convergence
jacobi_convergence n a = convergence (jacobi_settled n a) (jacobi_sweeps n a)

unfoldable pub eigen_convergence : ℕ → List Float → Convergence
eigen_convergence n a = cond (ltb 32 n) (householder_convergence n a) (jacobi_convergence n a)

-- the most that a count can be: 100 rounds for each of the n numbers, or 100 sweeps
unfoldable pub eigen_limit : ℕ → ℕ
eigen_limit n = cond (ltb 32 n) (100 * n) 100

-- SIZE: n above 512; LENGTH: a matrix that has not exactly n * n numbers; SPACE: too short a working list, or one of the two lists of the answer
unfoldable pub eigen_check : ℕ → ℕ → ℕ → ℕ → ℕ → Result ⊤ Refusal
eigen_check n a work values vectors =
    refuse (ltb 512 n) Size
    (refuse (not (eqb a (n * n))) Length
    (refuse (ltb work (n * n + 4 * n)) Space (refuse (ltb values n) Space (refuse (ltb vectors (n * n)) Space (Ok tt)))))
