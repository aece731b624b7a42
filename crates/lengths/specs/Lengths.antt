-- How long the lists of each call must be, in the order of its list parameters, and the sizes that it takes. A list `love` has what water heights
-- need; other functionals read none. Assumes nothing.
use Rattle.std.specs.Prelude.{◌≡◌, refl, List, [], ◌∷◌, ℕ, zero, suc, ◌+◌, ◌*◌, ◌/◌, ◌≤◌, min, take, pos, Err, Ok, Option, Result, ℤ, ⊤}
use Rattle.std.proofs.Common.{arith}
use Rattle.storage.specs.Triangle.{table_size}
use Rattle.coefficients.specs.Model.{date_of}
use Rattle.model_file.specs.declared.FileHead.{FileHead}
use Rattle.model_file.specs.Format.{head_size, file_size}
use Rattle.quadrature.specs.Gauss.{guess_count}
use Rattle.synthesis.specs.Grid.{work_size}
use Rattle.analysis.specs.Analysis.{points_of}
use Rattle.polar_cap.specs.PolarCap.{vectors_size, cap_work}
use Rattle.region_nodes.specs.Basis.{basis_size}
use Rattle.region_nodes.specs.Regions.{integrals}
use Rattle.region.specs.Region.{region_work}
use Rattle.lengths.specs.Told.{size_check}
use Rattle.refusal.specs.declared.Refusal.{Refusal}
use Rattle.refusal.specs.Numbers.{◌and_then◌}

-- ---- the sizes, in the order in which the call checks them
abbrev pub degree_size : ℕ → Result ⊤ Refusal
degree_size N = size_check 2700 N

abbrev pub two_degrees : ℕ → ℕ → Result ⊤ Refusal
two_degrees N K = size_check 2700 K and_then size_check 2700 N

abbrev pub grid_sizes : (N rows longitudes : ℕ) → Result ⊤ Refusal
grid_sizes N rows longitudes = size_check 65535 rows and_then size_check 65535 longitudes and_then size_check 2700 N

abbrev pub along_sizes : (N points : ℕ) → Result ⊤ Refusal
along_sizes N points = size_check 65535 points and_then size_check 2700 N

-- ---- models and tables
-- so many tables up to degree N: `zeros`, `coefficient_c`, `coefficient_s`, `set`, `rescaled` and the calls of legendre
unfoldable pub tables_lengths : ℕ → ℕ → List ℕ
tables_lengths zero N = []
tables_lengths (suc count) N = table_size N ∷ tables_lengths count N

-- love
unfoldable pub factor_lengths : ℕ → List ℕ
factor_lengths n = (n + 1) ∷ []

-- c, s, and the two tables up to the cut
unfoldable pub truncated_lengths : (N cut : ℕ) → List ℕ
truncated_lengths N cut = table_size N ∷ table_size N ∷ table_size (min cut N) ∷ table_size (min cut N) ∷ []

-- c, s, out
unfoldable pub variances_lengths : ℕ → List ℕ
variances_lengths N = table_size N ∷ table_size N ∷ (N + 1) ∷ []

-- c, s, love, out
unfoldable pub amplitudes_lengths : ℕ → List ℕ
amplitudes_lengths N = table_size N ∷ table_size N ∷ (N + 1) ∷ (N + 1) ∷ []

-- the bytes of a file, c, s, and the six words of the head
unfoldable pub file_lengths : Option ℤ → ℕ → List ℕ
file_lengths date N = file_size date N ∷ table_size N ∷ table_size N ∷ 6 ∷ []

abbrev pub read_lengths : Result FileHead Refusal → List ℕ
read_lengths (Ok h) = file_lengths h.date h.nmax
read_lengths (Err e) = []

-- c, s, and the bytes
unfoldable pub write_lengths : (N dated : ℕ) → List ℕ
write_lengths N dated = table_size N ∷ table_size N ∷ file_size (date_of dated (pos 0)) N ∷ []

-- guesses, x, w
unfoldable pub gauss_lengths : ℕ → List ℕ
gauss_lengths n = guess_count n ∷ n ∷ n ∷ []

-- ---- fields
-- c, s, love, latitudes, trig, work, out
unfoldable pub grid_lengths : (N rows longitudes : ℕ) → List ℕ
grid_lengths N rows longitudes =
    table_size N ∷ table_size N ∷ (N + 1) ∷ (rows + rows) ∷ (longitudes * (N + N + 2)) ∷ work_size N ∷ (rows * longitudes) ∷ []

-- c, s, the kernel's two tables, love
unfoldable pub average_lengths : (N K : ℕ) → List ℕ
average_lengths N K = table_size N ∷ table_size N ∷ table_size K ∷ table_size K ∷ (min N K + 1) ∷ []

-- c, s, trig, work, out of a call for one point that may use k tables of its working list and writes so many numbers: `partials` and
-- `second_partials`
unfoldable pub point_lengths : (k numbers N : ℕ) → List ℕ
point_lengths k numbers N = table_size N ∷ table_size N ∷ (N + N + 2) ∷ (k * table_size N) ∷ numbers ∷ []

abbrev pub partials_lengths : ℕ → List ℕ
partials_lengths = point_lengths 4 4

abbrev pub second_lengths : ℕ → List ℕ
second_lengths = point_lengths 5 10

-- c, s, radii, latitudes, trig, work, out of such a call for many points
unfoldable pub points_lengths : (k numbers N points : ℕ) → List ℕ
points_lengths k numbers N points =
    table_size N ∷ table_size N ∷ points ∷ (points + points) ∷ (points * (N + N + 2)) ∷ (k * table_size N) ∷ (numbers * points) ∷ []

abbrev pub along_lengths : (N points : ℕ) → List ℕ
along_lengths = points_lengths 4 4

abbrev pub second_along_lengths : (N points : ℕ) → List ℕ
second_along_lengths = points_lengths 5 10

-- the one list of a call that takes no size
abbrev pub one_length : ℕ → List ℕ
one_length numbers = numbers ∷ []

-- out of `acceleration_neu` and `gravity_neu`, and of `tensor_neu`
abbrev pub three_lengths : List ℕ
three_lengths = one_length 3

abbrev pub nine_lengths : List ℕ
nine_lengths = one_length 9

-- love, values, weights, latitudes, trig, work, c, s
unfoldable pub analysis_lengths : ℕ → List ℕ
analysis_lengths N =
    (N + 1) ∷ points_of N ∷ (N + 1) ∷ (N + 1 + (N + 1)) ∷ (points_of N + points_of N) ∷ (3 * table_size N) ∷ table_size N ∷ table_size N ∷ []

-- ---- matrices and caps
-- a, work, values, vectors
unfoldable pub eigen_lengths : ℕ → List ℕ
eigen_lengths n = (n * n) ∷ (n * n + 4 * n) ∷ n ∷ (n * n) ∷ []

-- weights, latitudes, work, orders, concentrations, vectors, settled
unfoldable pub cap_lengths : ℕ → List ℕ
cap_lengths L = (L + 1) ∷ (L + 1 + (L + 1)) ∷ cap_work L ∷ table_size L ∷ table_size L ∷ vectors_size L ∷ ((L + 1) * 2) ∷ []

-- ---- regions
-- SIZE of the degree and of the nodes
abbrev pub region_sizes : (L nodes : ℕ) → Result ⊤ Refusal
region_sizes L nodes = size_check 21 L and_then size_check 65535 nodes

-- weights, latitudes, marks, s, c, work, matrix
unfoldable pub matrix_lengths : (L nodes : ℕ) → List ℕ
matrix_lengths L nodes =
    nodes ∷ (nodes + nodes) ∷ nodes ∷ (nodes * integrals L) ∷ (nodes * integrals L) ∷ (3 * table_size L) ∷ (basis_size L * basis_size L) ∷ []

-- weights, latitudes, marks, s, c, work, concentrations, cs, ss
unfoldable pub region_lengths : (L nodes : ℕ) → List ℕ
region_lengths L nodes =
    nodes ∷ (nodes + nodes) ∷ nodes ∷ (nodes * integrals L) ∷ (nodes * integrals L) ∷ region_work L ∷ basis_size L ∷ (basis_size L * table_size L)
    ∷ (basis_size L * table_size L) ∷ []

-- ---- outlines and kernels
-- the outline, work, out: there are no more intervals than half as many as vertices
unfoldable pub intervals_lengths : ℕ → List ℕ
intervals_lengths v = (v + v) ∷ v ∷ (v / 2 * 2) ∷ []

-- the outline, work, out
unfoldable pub breaks_lengths : ℕ → List ℕ
breaks_lengths v = (v + v) ∷ v ∷ v ∷ []

-- SIZE of the degree and of the nodes
abbrev pub kernel_sizes : (L nodes : ℕ) → Result ⊤ Refusal
kernel_sizes L nodes = degree_size L and_then size_check 65535 nodes

-- weights, latitudes, marks, s, c, work, kc, ks
unfoldable pub kernel_lengths : (L nodes : ℕ) → List ℕ
kernel_lengths L nodes =
    nodes ∷ (nodes + nodes) ∷ nodes ∷ (nodes * integrals L) ∷ (nodes * integrals L) ∷ (3 * table_size L) ∷ table_size L ∷ table_size L ∷ []

-- ---- as the code has them
-- the first of four tables
pub tables_told : {size : ℕ} (N count : ℕ) → count ≤ 4 → size ≡ table_size N → take count (size ∷ size ∷ size ∷ size ∷ []) ≡ tables_lengths count N
unfolding tables_lengths
tables_told N zero h e = refl
tables_told N (suc zero) h e = cc
tables_told N (suc (suc zero)) h e = cc
tables_told N (suc (suc (suc zero))) h e = cc
tables_told N (suc (suc (suc (suc zero)))) h e = cc
tables_told N (suc (suc (suc (suc (suc k))))) h e = absurd (omega arith)

-- the lists of a file
pub file_told : {size start : ℕ} (date : Option ℤ) (N : ℕ) → size ≡ table_size N → start ≡ head_size date
    → (start + 17 * size + 1) ∷ size ∷ size ∷ 6 ∷ [] ≡ file_lengths date N
unfolding file_lengths
file_told date N e z = rw (e, z) refl

pub write_told : {size start : ℕ} {date : Option ℤ} (N dated : ℕ) → size ≡ table_size N → date ≡ date_of dated (pos 0) → start ≡ head_size date
    → size ∷ size ∷ (start + 17 * size + 1) ∷ [] ≡ write_lengths N dated
unfolding write_lengths
write_told N dated e d z = rw (e, z, d) refl

pub gauss_told : (n : ℕ) {half : ℕ} → half ≡ guess_count n → half ∷ n ∷ n ∷ [] ≡ gauss_lengths n
unfolding gauss_lengths
gauss_told n e = cc

pub grid_told : (N rows longitudes : ℕ) {size trig work out : ℕ} → size ≡ table_size N → trig ≡ longitudes * (N + N + 2) → work ≡ work_size N
    → out ≡ rows * longitudes → size ∷ size ∷ (N + 1) ∷ (rows + rows) ∷ trig ∷ work ∷ out ∷ [] ≡ grid_lengths N rows longitudes
unfolding grid_lengths
grid_told N rows longitudes e t w o = cc

pub matrix_told : (L nodes : ℕ) {integral table cells : ℕ} → integral ≡ nodes * integrals L → table ≡ table_size L → cells ≡ basis_size L * basis_size L
    → nodes ∷ (nodes + nodes) ∷ nodes ∷ integral ∷ integral ∷ (3 * table) ∷ cells ∷ [] ≡ matrix_lengths L nodes
unfolding matrix_lengths
matrix_told L nodes i t d = cc

pub region_told : (L nodes : ℕ) {integral work functions numbers : ℕ} → integral ≡ nodes * integrals L → work ≡ region_work L → functions ≡ basis_size L
    → numbers ≡ basis_size L * table_size L
    → nodes ∷ (nodes + nodes) ∷ nodes ∷ integral ∷ integral ∷ work ∷ functions ∷ numbers ∷ numbers ∷ [] ≡ region_lengths L nodes
unfolding region_lengths
region_told L nodes i w f d = cc

pub intervals_told : (v : ℕ) → (v + v) ∷ v ∷ (v / 2 * 2) ∷ [] ≡ intervals_lengths v
unfolding intervals_lengths
intervals_told v = refl

pub breaks_told : (v : ℕ) → (v + v) ∷ v ∷ v ∷ [] ≡ breaks_lengths v
unfolding breaks_lengths
breaks_told v = refl

pub kernel_told : (L nodes : ℕ) {integral table : ℕ} → integral ≡ nodes * integrals L → table ≡ table_size L
    → nodes ∷ (nodes + nodes) ∷ nodes ∷ integral ∷ integral ∷ (3 * table) ∷ table ∷ table ∷ [] ≡ kernel_lengths L nodes
unfolding kernel_lengths
kernel_told L nodes i t = cc
