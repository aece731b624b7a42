-- What the passes over vectors, and over a matrix that is held column by column, write, by what the lists hold before. Definitions only.
use Rattle.std.specs.Prelude.{cond, List, ℕ, ◌+◌, ◌*◌, ltb, get_or, Float}
use Rattle.std.specs.Float.{nan}
use Rattle.number.specs.Float64.{◌⊕◌, ◌⊖◌, ◌⊗◌, ◌⊘◌, zero64, two64}
use Rattle.storage.specs.Elements.{from}
use Rattle.matrix.specs.Matrix.{cell}
use Rattle.matrix.specs.Layout.{flipped}
use Rattle.householder.specs.Reduction.{dot}

-- v over s
unfoldable pub quotient : Float → List Float → ℕ → Float
quotient s v i = get_or v i nan ⊘ s

-- p plus x times the run of w from index at on
unfoldable pub plus_multiple : ℕ → Float → List Float → List Float → ℕ → Float
plus_multiple at x w p i = get_or p i nan ⊕ get_or w (at + i) nan ⊗ x

-- p plus four neighbouring runs of n numbers, each times its number, in their order
unfoldable pub plus_four : ℕ → ℕ → Float → Float → Float → Float → List Float → List Float → ℕ → Float
plus_four n at x0 x1 x2 x3 w p i =
    plus_multiple at x0 w p i ⊕ get_or w (at + n + i) nan ⊗ x1 ⊕ get_or w (at + n + n + i) nan ⊗ x2 ⊕ get_or w (at + n + n + n + i) nan ⊗ x3

-- p less x times v
unfoldable pub less_multiple : Float → List Float → List Float → ℕ → Float
less_multiple x v p i = get_or p i nan ⊖ x ⊗ get_or v i nan

-- the product of the columns lo, .., hi - 1 and v: each number its own sum, in the order of the columns
unfoldable pub columns_product : ℕ → ℕ → ℕ → List Float → List Float → ℕ → Float
columns_product n lo hi w v i = dot (flipped (cell n w) i) (from 0 v nan) lo hi

-- one column less 2vqᵀ + 2qvᵀ, from index at on, with its numbers vj and qj of v and q
unfoldable pub updated_run : ℕ → Float → Float → List Float → List Float → List Float → ℕ → Float
updated_run at vj qj v q w i = get_or w (at + i) nan ⊖ two64 ⊗ (get_or v i nan ⊗ qj ⊕ get_or q i nan ⊗ vj)

-- all columns: number i of column j
unfoldable pub updated_columns : ℕ → List Float → List Float → List Float → ℕ → ℕ → Float
updated_columns n v q w j i = updated_run (j * n) (get_or v j nan) (get_or q j nan) v q w i

-- one column less 2pvᵀ, from index at on, with its number vj of v
unfoldable pub accumulated_run : ℕ → Float → List Float → List Float → ℕ → Float
accumulated_run at vj p q i = get_or q (at + i) nan ⊖ two64 ⊗ get_or p i nan ⊗ vj

-- the columns from lo on: number i of column lo + j
unfoldable pub accumulated_columns : ℕ → ℕ → List Float → List Float → List Float → ℕ → ℕ → Float
accumulated_columns n lo v p q j i = accumulated_run ((lo + j) * n) (get_or v (lo + j) nan) p q i

-- the number below the diagonal in column i, and 0 in the last column
unfoldable pub subdiagonal_in : ℕ → List Float → ℕ → Float
subdiagonal_in n w i = cond (ltb (i + 1) n) (get_or w (i * n + (i + 1)) nan) zero64
