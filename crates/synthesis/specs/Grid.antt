-- A functional of a field on a grid: the value at each row and longitude, and the checks of the call. Definitions only.
use Rattle.std.specs.Prelude.{Bool, not, List, ℕ, ◌+◌, ◌*◌, ltb, eqb, Float, Ok, Result, ⊤}
use Rattle.std.specs.Float.{nan}
use Rattle.refusal.specs.Numbers.{refuse, ◌and_then◌}
use Rattle.refusal.specs.declared.Refusal.TheVariants.{Size, Length, Love, Space}
use Rattle.storage.specs.Checks.{tables_check}
use Rattle.storage.specs.Triangle.{table_size, cells}
use Rattle.legendre.specs.Directions.{legendre_row, cosines, sines}
use Rattle.rounding.specs.Margins.{grid_value, TableAtMostOne, LineAtMostOne}
use Rattle.refusal.specs.declared.Refusal.{Refusal}

-- the value at row i and longitude j
unfoldable pub grid_cell : (factor : ℕ → Float) (lats c s trig : List Float) (N i j : ℕ) → Float
grid_cell factor lats c s trig N i j = grid_value (legendre_row lats i) factor (cells c nan) (cells s nan) (cosines trig N j) (sines trig N j) N

-- what demand 3 asks of the numbers in the sum at one longitude: that c, s, the cosines and the sines are at most 1 in size
pub record SizesAtMostOne (N : ℕ) (c s : ℕ → ℕ → Float) (cos sin : ℕ → Float) : Type 0 where
  pub of_c : TableAtMostOne N c
  pub of_s : TableAtMostOne N s
  pub of_cos : LineAtMostOne N cos
  pub of_sin : LineAtMostOne N sin

-- ---- the checks
-- how many numbers of the working list are used: 3T + 3(N + 1)
abbrev pub work_size : ℕ → ℕ
work_size N = 3 * table_size N + 3 * (N + 1)

-- SIZE of degree, rows and longitudes; LENGTH of c, s, the pairs of the latitudes, the cosines and sines; LOVE; SPACE of the working list and
-- the output
unfoldable pub grid_check : (nmax clen slen rows lats longitudes trig : ℕ) → Bool → (work out : ℕ) → Result ⊤ Refusal
grid_check nmax clen slen rows lats longitudes trig lacks work out =
    refuse (ltb 65535 rows) Size
    (refuse (ltb 65535 longitudes) Size
    (tables_check nmax clen slen
    and_then refuse (not (eqb lats (rows + rows))) Length
    (refuse (not (eqb trig (longitudes * (nmax + nmax + 2)))) Length
    (refuse lacks Love (refuse (ltb work (work_size nmax)) Space (refuse (ltb out (rows * longitudes)) Space (Ok tt)))))))
