-- Latitudes and longitudes as lent lists hold them, by the sines and cosines that the caller works out. Definitions only.
use Rattle.std.specs.Prelude.{List, ℕ, ◌+◌, ◌*◌, get_or, Float}
use Rattle.std.specs.Float.{nan}
use Rattle.storage.specs.Triangle.{along}
use Rattle.recursion.specs.Recursion.{a_cell, b_cell, p_cell}

-- the sine t and the cosine u of the latitude of row i
unfoldable pub row_sine : List Float → ℕ → Float
row_sine lats i = get_or lats (i + i) nan

unfoldable pub row_cosine : List Float → ℕ → Float
row_cosine lats i = get_or lats (i + i + 1) nan

-- the cosine and the sine of m times longitude j, in a list with the orders 0 to N of each longitude
unfoldable pub cosines : List Float → ℕ → ℕ → ℕ → Float
cosines trig N j m = get_or trig (j * (N + N + 2) + (m + m)) nan

unfoldable pub sines : List Float → ℕ → ℕ → ℕ → Float
sines trig N j m = get_or trig (j * (N + N + 2) + (m + m + 1)) nan

-- P at row i, with the recursion coefficients that `Legendre::new` has
unfoldable pub legendre_row : List Float → ℕ → ℕ → ℕ → Float
legendre_row lats i = p_cell (along a_cell) (along b_cell) (row_sine lats i) (row_cosine lats i)
