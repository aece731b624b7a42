-- The functions of a polar cap, order after order, and how many numbers there are of them in a call's lists. Definitions only.
use Rattle.std.specs.Prelude.{List, [], ◌++◌, ℕ, zero, suc, ◌+◌, ◌*◌, ◌/◌}
use Rattle.storage.specs.Tabulate.{tabulate}
use Rattle.storage.specs.Triangle.{table_size}
use Rattle.caps.specs.Caps.{degrees}

-- ---- the functions: (m, col) is the one of order m in column col of that order's vectors
unfoldable pub in_column : ℕ → ℕ → ℕ × ℕ
in_column m col = (m, col)

-- those of the orders below m, order after order, column after column
unfoldable pub functions_below : ℕ → ℕ → List (ℕ × ℕ)
functions_below L zero = []
functions_below L (suc m) = functions_below L m ++ tabulate (in_column m) 0 (degrees L m)

unfoldable pub functions : ℕ → List (ℕ × ℕ)
functions L = functions_below L (L + 1)

-- ---- the sizes
-- how many numbers all vectors have; there are as many functions as entries in a table up to degree L
unfoldable pub vectors_size : ℕ → ℕ
vectors_size L = (L + 1) * (L + 2) * (2 * L + 3) / 6

-- how many numbers of the working list are used: 3T + 4k² + 5k with k = L + 1, and the three lengths of the answer
unfoldable pub cap_work : ℕ → ℕ
cap_work L = 3 * table_size L + 4 * ((L + 1) * (L + 1)) + 5 * (L + 1) + table_size L + table_size L + vectors_size L
