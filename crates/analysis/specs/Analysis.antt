-- The coefficients of a functional's values on a grid of N + 1 rows and 2N + 2 longitudes: the sums over the longitudes and the rows, the division by
-- the factors, and the checks of the call. Definitions only.
use Rattle.std.specs.Prelude.{Bool, not, List, ℕ, ◌+◌, ◌*◌, ltb, eqb, get_or, Float, Result, ⊤}
use Rattle.std.specs.Float.{nan, binary64}
use Rattle.refusal.specs.Numbers.{refuse}
use Rattle.refusal.specs.declared.Refusal.TheVariants.{Size, Length, Love, Space}
use Rattle.number.specs.Float64.{◌⊗◌, ◌⊘◌, of_whole, two64}
use Rattle.storage.specs.Checks.{space_check}
use Rattle.storage.specs.Triangle.{table_size}
use Rattle.legendre.specs.Directions.{legendre_row}
use Rattle.rounding.specs.Sums.{zero⁺, running_sum}
use Rattle.legendre_analysis.specs.Division.{divided}
use Rattle.refusal.specs.declared.Refusal.{Refusal}

-- the longitudes of a row, and the points of all rows
abbrev pub longitudes_of : ℕ → ℕ
longitudes_of N = N + N + 2

unfoldable pub points_of : ℕ → ℕ
points_of N = (N + 1) * longitudes_of N

-- ---- the sums over the longitudes
-- the value at row i and longitude j, row after row
unfoldable pub value_at : List Float → ℕ → ℕ → ℕ → Float
value_at values N i j = get_or values (i * longitudes_of N + j) nan

-- the cosine and the sine of m times longitude j, in a list with such a pair for each longitude, order after order
unfoldable pub cosine_at : List Float → ℕ → ℕ → ℕ → Float
cosine_at trig N m j = get_or trig (m * longitudes_of N + j + (m * longitudes_of N + j)) nan

unfoldable pub sine_at : List Float → ℕ → ℕ → ℕ → Float
sine_at trig N m j = get_or trig (m * longitudes_of N + j + (m * longitudes_of N + j) + 1) nan

unfoldable pub cosine_term : (values trig : List Float) (N i m j : ℕ) → Float
cosine_term values trig N i m j = value_at values N i j ⊗ cosine_at trig N m j

unfoldable pub sine_term : (values trig : List Float) (N i m j : ℕ) → Float
sine_term values trig N i m j = value_at values N i j ⊗ sine_at trig N m j

-- the values of row i times the cosines of order m, and times the sines, added from +0.0 over rising longitudes
unfoldable pub cosine_sum : (values trig : List Float) (N i m : ℕ) → Float
cosine_sum values trig N i m = running_sum binary64 (cosine_term values trig N i m) (longitudes_of N) zero⁺

unfoldable pub sine_sum : (values trig : List Float) (N i m : ℕ) → Float
sine_sum values trig N i m = running_sum binary64 (sine_term values trig N i m) (longitudes_of N) zero⁺

-- ---- the sums over the rows
-- the quadrature's weight of row i over 2 (2N + 2): the mean over the sphere, with dλ = 2π / (2N + 2)
unfoldable pub row_weight : List Float → ℕ → ℕ → Float
row_weight weights N i = get_or weights i nan ⊘ (two64 ⊗ of_whole (longitudes_of N))

-- what row i adds to the entry (n, m): its weight times P, then times its sum over the longitudes
unfoldable pub row_term : (weight : ℕ → Float) (P : ℕ → ℕ → ℕ → Float) (sums : ℕ → ℕ → Float) (n m i : ℕ) → Float
row_term weight P sums n m i = weight i ⊗ P i n m ⊗ sums i m

-- the first rows' terms added from +0.0, rows rising
unfoldable pub rows_sum : (weight : ℕ → Float) (P : ℕ → ℕ → ℕ → Float) (sums : ℕ → ℕ → Float) (rows n m : ℕ) → Float
rows_sum weight P sums rows n m = running_sum binary64 (row_term weight P sums n m) rows zero⁺

-- ---- the entries
-- the entry (n, m): of C with the sums `cosine_sum values trig N`, of S with `sine_sum values trig N`
unfoldable pub analysis_cell : (factor : ℕ → Float) (weights lats : List Float) (sums : ℕ → ℕ → Float) (N n m : ℕ) → Float
analysis_cell factor weights lats sums N n m = divided (factor n) (rows_sum (row_weight weights N) (legendre_row lats) sums (N + 1) n m)

-- ---- the checks
-- SIZE of the degree; LENGTH of the values, the weights, the pairs of the latitudes, the cosines and sines; LOVE; SPACE of the working list (3T) and
-- of the two outputs
unfoldable pub analysis_check : (nmax values weights lats trig : ℕ) → Bool → (work c s : ℕ) → Result ⊤ Refusal
analysis_check nmax values weights lats trig lacks work c s =
    refuse (ltb 2700 nmax) Size
    (refuse (not (eqb values (points_of nmax))) Length
    (refuse (not (eqb weights (nmax + 1))) Length
    (refuse (not (eqb lats (nmax + 1 + (nmax + 1)))) Length
    (refuse (not (eqb trig (points_of nmax + points_of nmax))) Length
    (refuse lacks Love (refuse (ltb work (3 * table_size nmax)) Space (space_check (table_size nmax) c s)))))))
