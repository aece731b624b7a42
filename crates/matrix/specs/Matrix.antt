-- Square matrices as lists of n * n numbers, row by row, and what both eigensolvers make of them. Assumes nothing.
use Rattle.std.specs.Prelude.{◌≡◌, cond, List, ℕ, zero, suc, ◌+◌, ◌-◌, ◌*◌, ◌/◌, ◌%◌, ◌≤◌, ◌<◌, eqb, length, get_or, Float}
use Rattle.std.proofs.Common.{sym, ◌∙◌, not-suc-le-zero, zero-lt-suc, zero-add, mul-le-mul_right, div-lt_iff_lt-mul, div-add-mod', mod-lt, ext_get_or}
use Rattle.std.proofs.Math.Path.{ap}
use native.Mathlib.Omega.{arith}
use Rattle.std.specs.Float.Ieee.{nan}
use Rattle.number.specs.Float64.{◌⊕◌, ◌⊖◌, ◌⊗◌, zero64, one64}
use Rattle.storage.specs.Tabulate.{tabulate, length-tabulate, get_d_tabulate}
use Rattle.storage.specs.Rectangle.{by_rows, by_row}

-- the number at row i and column j
unfoldable pub cell : ℕ → List Float → ℕ → ℕ → Float
cell n a i j = get_or a (i * n + j) nan

-- the matrix with the number f i j at row i and column j
unfoldable pub matrix_of : ℕ → (ℕ → ℕ → Float) → List Float
matrix_of n f = tabulate (by_rows f n) 0 (n * n)

-- 1 on the diagonal and 0 beside it
unfoldable pub kronecker : ℕ → ℕ → Float
kronecker i j = cond (eqb i j) one64 zero64

unfoldable pub identity : ℕ → List Float
identity n = matrix_of n kronecker

unfoldable pub diagonal_cell : ℕ → List Float → ℕ → Float
diagonal_cell n a i = cell n a i i

-- the n numbers of the diagonal
unfoldable pub diagonal : ℕ → List Float → List Float
diagonal n a = tabulate (diagonal_cell n a) 0 n

-- the cells f with columns p and q rotated: in each row the numbers x of column p and y of column q become c x − s y and s x + c y
unfoldable pub columns_rotated : Float → Float → ℕ → ℕ → (ℕ → ℕ → Float) → ℕ → ℕ → Float
columns_rotated c s p q f i j = cond (eqb j p) (c ⊗ f i p ⊖ s ⊗ f i q) (cond (eqb j q) (s ⊗ f i p ⊕ c ⊗ f i q) (f i j))

-- the same for rows p and q
unfoldable pub rows_rotated : Float → Float → ℕ → ℕ → (ℕ → ℕ → Float) → ℕ → ℕ → Float
rows_rotated c s p q f i j = cond (eqb i p) (c ⊗ f p j ⊖ s ⊗ f q j) (cond (eqb i q) (s ⊗ f p j ⊕ c ⊗ f q j) (f i j))

-- the matrix a with columns p and q rotated, and with rows p and q
unfoldable pub rotate_columns : Float → Float → ℕ → ℕ → ℕ → List Float → List Float
rotate_columns c s n p q a = matrix_of n (columns_rotated c s p q (cell n a))

unfoldable pub rotate_rows : Float → Float → ℕ → ℕ → ℕ → List Float → List Float
rotate_rows c s n p q a = matrix_of n (rows_rotated c s p q (cell n a))

-- ---- places
pub row_within : (n i : ℕ) → i < n → i * n + n ≤ n * n
row_within n i h = omega (arith, mul-le-mul_right n h)

pub cell-within : (n i j : ℕ) → i < n → j < n → i * n + j < n * n
cell-within n i j h g = omega (arith, row_within n i h)

-- an index of the storage is that of a row and a column
some_row : (n k : ℕ) → k < n * n → 0 < n
some_row zero k h = absurd (not-suc-le-zero h)
some_row (suc n) k h = zero-lt-suc n

pub row_of : (n k : ℕ) → k < n * n → k / n < n
row_of n k h = (div-lt_iff_lt-mul (some_row n k h)).1 h

pub column_of_lem : (n k : ℕ) → k < n * n → k % n < n
column_of_lem n k h = mod-lt k (some_row n k h)

-- ---- a matrix is its cells
module _ (n : ℕ) (f : ℕ → ℕ → Float) where
  pub length_matrix : length (matrix_of n f) ≡ n * n
  unfolding matrix_of
  length_matrix = let e : n * n - 0 ≡ n * n = omega arith in length-tabulate (by_rows f n) 0 (n * n) ∙ e

  pub cell_matrix : (i j : ℕ) → i < n → j < n → cell n (matrix_of n f) i j ≡ f i j
  unfolding cell matrix_of
  cell_matrix i j h g =
      let b = cell-within n i j h g in
      get_d_tabulate (by_rows f n) 0 (n * n) (i * n + j) nan (omega arith) ∙ ap (by_rows f n) (zero-add (i * n + j)) ∙ by_row f n i j g

-- lists of n * n numbers with the same cells
cells_ext : (n : ℕ) (a b : List Float) → length a ≡ n * n → length b ≡ n * n → ((i j : ℕ) → i < n → j < n → cell n a i j ≡ cell n b i j) → a ≡ b
unfolding cell
cells_ext n a b la lb e =
    ext_get_or nan a b (la ∙ sym lb)
    (λ k h.
    let l : k < n * n = omega arith in
    let d = div-add-mod' k n in
    ap (λ (x : ℕ). get_or a x nan) (sym d) ∙ e (k / n) (k % n) (row_of n k l) (column_of_lem n k l) ∙ ap (λ (x : ℕ). get_or b x nan) d)

pub matrix_same : (n : ℕ) (f g : ℕ → ℕ → Float) → ((i j : ℕ) → i < n → j < n → f i j ≡ g i j) → matrix_of n f ≡ matrix_of n g
matrix_same n f g e =
    cells_ext n (matrix_of n f) (matrix_of n g) (length_matrix n f) (length_matrix n g)
    (λ i j h l. cell_matrix n f i j h l ∙ e i j h l ∙ sym (cell_matrix n g i j h l))

pub matrix_self : (n : ℕ) (a : List Float) → length a ≡ n * n → matrix_of n (cell n a) ≡ a
matrix_self n a l = cells_ext n (matrix_of n (cell n a)) a (length_matrix n (cell n a)) l (λ i j h g. cell_matrix n (cell n a) i j h g)
