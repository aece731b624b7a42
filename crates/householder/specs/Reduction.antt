-- The reduction of an n by n matrix to tridiagonal form by Householder reflections, with the product of the reflections: Golub & Van Loan,
-- Matrix Computations, Algorithm 8.3.1, in the Rust's order of operations. A vector is a function of the index. Definitions only.
use Rattle.std.specs.Prelude.{cond, List, ℕ, ◌+◌, ◌-◌, eqb, leb, ltb, Float}
use Rattle.std.specs.Float.Ieee.{eq, le, neg}
use Rattle.number.specs.Float64.{◌⊕◌, ◌⊖◌, ◌⊗◌, ◌⊘◌, zero64, two64}
use Rattle.number.specs.Root.{root_of}
use Rattle.storage.specs.Iterate.{iterate}
use Rattle.matrix.specs.Matrix.{cell, matrix_of, identity}

-- one product more in a sum
unfoldable pub add_product : (ℕ → Float) → (ℕ → Float) → ℕ → Float → Float
add_product x y i sum = sum ⊕ x i ⊗ y i

-- xᵀy over the indices lo, .., hi - 1, from the left and from +0
unfoldable pub dot : (ℕ → Float) → (ℕ → Float) → ℕ → ℕ → Float
dot x y lo hi = iterate (add_product x y) lo hi zero64

-- ‖x‖ over the indices lo, .., hi - 1
unfoldable pub norm : (ℕ → Float) → ℕ → ℕ → Float
norm x lo hi = root_of (dot x x lo hi)

-- alpha: -‖x‖ where the first number x0 of x is at least 0, else ‖x‖, so that x0 - alpha does not cancel
abbrev pub alpha_of : Float → Float → Float
alpha_of size x0 = cond (le zero64 x0) (neg size) size

-- one number of what follows: in row i, from the column's number x there
unfoldable pub less_alpha_at : ℕ → Float → Float → ℕ → Float
less_alpha_at k size x i = cond (leb i k) zero64 (cond (eqb i (k + 1)) (x ⊖ alpha_of size x) x)

-- x - alpha e(k+1) for a column x: +0 up to row k, x less alpha in row k + 1, x below it
unfoldable pub less_alpha : ℕ → Float → (ℕ → Float) → ℕ → Float
less_alpha k size x i = less_alpha_at k size (x i) i

-- the Householder vector v of a column x whose norm below row k is `size`: x - alpha e(k+1) over its own norm
unfoldable pub householder_vector : ℕ → ℕ → Float → (ℕ → Float) → ℕ → Float
householder_vector n k size x i = less_alpha k size x i ⊘ norm (less_alpha k size x) 0 n

-- column k of a matrix
unfoldable pub column_of : ℕ → List Float → ℕ → ℕ → Float
column_of n a k i = cell n a i k

-- p = Av, where the sum is over the columns after k: before them v has no part
unfoldable pub product : ℕ → ℕ → List Float → (ℕ → Float) → ℕ → Float
product n k a v i = dot (cell n a i) v (k + 1) n

-- q = p - (vᵀp)v, where the sum is over the rows after k
unfoldable pub correction : ℕ → ℕ → (ℕ → Float) → (ℕ → Float) → ℕ → Float
correction n k v p i = p i ⊖ dot v p (k + 1) n ⊗ v i

-- row i, column j of A - 2vqᵀ - 2qvᵀ
unfoldable pub reflected_cell : ℕ → List Float → (ℕ → Float) → (ℕ → Float) → ℕ → ℕ → Float
reflected_cell n a v q i j = cell n a i j ⊖ two64 ⊗ (v i ⊗ q j ⊕ q i ⊗ v j)

-- HAH with the reflection H = I - 2vvᵀ
unfoldable pub reflected : ℕ → ℕ → List Float → (ℕ → Float) → List Float
reflected n k a v = matrix_of n (reflected_cell n a v (correction n k v (product n k a v)))

-- row i, column j of Q - 2(Qv)vᵀ; the columns up to k stay
unfoldable pub accumulated_cell : ℕ → ℕ → List Float → (ℕ → Float) → ℕ → ℕ → Float
accumulated_cell n k q v i j = cond (leb j k) (cell n q i j) (cell n q i j ⊖ two64 ⊗ product n k q v i ⊗ v j)

-- QH
unfoldable pub accumulated : ℕ → ℕ → List Float → (ℕ → Float) → List Float
accumulated n k q v = matrix_of n (accumulated_cell n k q v)

-- the matrix as far as it is reduced, and the product of the reflections so far
pub record Reduction : Type 0 where
  pub matrix : List Float
  pub orthogonal : List Float

abbrev pub reduction_of : List Float → List Float → Reduction
reduction_of a q = record { matrix = a; orthogonal = q }

-- the reflection that clears column k below the subdiagonal; a column that is 0 below the diagonal takes none
unfoldable pub reflection : ℕ → ℕ → Reduction → Reduction
reflection n k s =
    let x = column_of n s.matrix k in
    let size = norm x (k + 1) n in
    let v = householder_vector n k size x in
    cond (eq size zero64) s (reduction_of (reflected n k s.matrix v) (accumulated n k s.orthogonal v))

-- the reflections of the columns 0, .., n - 3
unfoldable pub reductions : ℕ → Reduction → Reduction
reductions n s = iterate (reflection n) 0 (n - 2) s

-- the tridiagonal form of a, and the orthogonal matrix Q of the reduction
unfoldable pub tridiagonal : ℕ → List Float → Reduction
tridiagonal n a = reductions n (reduction_of a (identity n))

-- the numbers below the diagonal, and after them a 0: n numbers
unfoldable pub subdiagonal_cell : ℕ → List Float → ℕ → Float
subdiagonal_cell n a i = cond (ltb (i + 1) n) (cell n a (i + 1) i) zero64
