-- The same as Enough for calls that take other sizes than one degree up to 2700: many points, grids, kernels, Gauss rules, matrices, caps and regions.
-- Assumes nothing.
use Rattle.std.specs.Prelude.{◌≡◌, [], ◌∷◌, ℕ, ◌+◌, ◌*◌, min, Ok}
use Rattle.std.proofs.Common.{arith}
use Rattle.storage.specs.Triangle.{table_size}
use Rattle.functional.specs.declared.Functional.{Functional}
use Rattle.functional.specs.Factor.{lacks_love}
use Rattle.quadrature.specs.Gauss.{guess_count, gauss_check}
use Rattle.quadrature.specs.GaussLaws.{gauss_done}
use Rattle.synthesis.specs.Grid.{work_size, grid_check}
use Rattle.synthesis.specs.Checks as grids
use Rattle.local.specs.Point.{along_check_of, along_check}
use Rattle.local.specs.Second.{second_along_check}
use Rattle.point_lists.specs.Checks.{many_passed}
use Rattle.slepian.specs.Average.{average_check, check_done}
use Rattle.linalg.specs.Eigen.{eigen_check}
use Rattle.linalg.specs.Checks as matrices
use Rattle.polar_cap.specs.PolarCap.{vectors_size, cap_work, cap_check}
use Rattle.polar_cap.specs.CapChecks as caps
use Rattle.region_nodes.specs.Basis.{basis_size}
use Rattle.region_nodes.specs.Regions.{integrals}
use Rattle.regions.specs.Checks.{matrix_check}
use Rattle.regions.specs.CheckLaws.{nodes_done, matrix_done}
use Rattle.region.specs.Region.{region_work, region_check}
use Rattle.region.specs.RegionChecks as regions
use Rattle.lengths.specs.Told.{size_check, within}
use Rattle.lengths.specs.Lengths.{degree_size, two_degrees, grid_sizes, along_sizes}
use Rattle.lengths.specs.Lengths.{gauss_lengths, grid_lengths}
use Rattle.lengths.specs.Lengths.{average_lengths, points_lengths, along_lengths, second_along_lengths}
use Rattle.lengths.specs.Lengths.{eigen_lengths, cap_lengths, region_sizes, matrix_lengths, region_lengths}
use Rattle.lengths.specs.Enough.{love_told, two_tables}
use Rattle.refusal.specs.Numbers.{both}

-- a call for many points
points_enough : (k numbers N points c s radii lats trig work out : ℕ) → Ok tt ≡ along_sizes N points
    → c ∷ s ∷ radii ∷ lats ∷ trig ∷ work ∷ out ∷ [] ≡ points_lengths k numbers N points
    → Ok tt ≡ along_check_of k numbers N c s points radii lats trig work out
unfolding points_lengths
points_enough k numbers N points c s radii lats trig work out ok e =
    let (few, d) = both (size_check 65535 points) _ ok in
    let p : c ≡ table_size N = cc in
    let q : s ≡ table_size N = cc in
    let i : radii ≡ points = cc in
    let l : lats ≡ points + points = cc in
    let t : trig ≡ points * (N + N + 2) = cc in
    let w : work ≡ k * table_size N = cc in
    let o : out ≡ numbers * points = cc in
    many_passed k numbers N c s points radii lats trig work out (within 65535 points few) (two_tables N d p q) i l t (omega arith) (omega arith)

-- `partials_along`
pub along_enough : (N points c s radii lats trig work out : ℕ) → Ok tt ≡ along_sizes N points
    → c ∷ s ∷ radii ∷ lats ∷ trig ∷ work ∷ out ∷ [] ≡ along_lengths N points → Ok tt ≡ along_check N c s points radii lats trig work out
along_enough = points_enough 4 4

-- `second_partials_along`
pub second_along_enough : (N points c s radii lats trig work out : ℕ) → Ok tt ≡ along_sizes N points
    → c ∷ s ∷ radii ∷ lats ∷ trig ∷ work ∷ out ∷ [] ≡ second_along_lengths N points → Ok tt ≡ second_along_check N c s points radii lats trig work out
second_along_enough = points_enough 5 10

-- `grid`
pub grid_enough : (f : Functional) (N rows longitudes c s love lats trig work out : ℕ) → Ok tt ≡ grid_sizes N rows longitudes
    → c ∷ s ∷ love ∷ lats ∷ trig ∷ work ∷ out ∷ [] ≡ grid_lengths N rows longitudes
    → Ok tt ≡ grid_check N c s rows lats longitudes trig (lacks_love f love N) work out
unfolding grid_lengths
grid_enough f N rows longitudes c s love lats trig work out ok e =
    let (r, few) = both (size_check 65535 rows) _ ok in
    let (m, d) = both (size_check 65535 longitudes) _ few in
    let p : c ≡ table_size N = cc in
    let q : s ≡ table_size N = cc in
    let g : love ≡ N + 1 = cc in
    let l : lats ≡ rows + rows = cc in
    let t : trig ≡ longitudes * (N + N + 2) = cc in
    let w : work ≡ work_size N = cc in
    let o : out ≡ rows * longitudes = cc in
    grids.all_passed N c s rows lats longitudes trig (lacks_love f love N) work out (within 65535 rows r) (within 65535 longitudes m)
    (two_tables N d p q) l t (love_told f love N g) (omega arith) (omega arith)

-- `basin_average`
pub average_enough : (f : Functional) (N K c s kc ks love : ℕ) → Ok tt ≡ two_degrees N K → c ∷ s ∷ kc ∷ ks ∷ love ∷ [] ≡ average_lengths N K
    → Ok tt ≡ average_check N c s K kc ks (lacks_love f love (min N K))
unfolding average_lengths
average_enough f N K c s kc ks love ok e =
    let (k, d) = both (degree_size K) _ ok in
    let p : c ≡ table_size N = cc in
    let q : s ≡ table_size N = cc in
    let u : kc ≡ table_size K = cc in
    let v : ks ≡ table_size K = cc in
    let g : love ≡ min N K + 1 = cc in
    check_done N c s K kc ks (lacks_love f love (min N K)) (within 2700 K k) (two_tables N d p q) (two_tables K k u v) (love_told f love (min N K) g)

-- `gauss_legendre`
pub gauss_enough : (n guesses x w : ℕ) → Ok tt ≡ size_check 2701 n → guesses ∷ x ∷ w ∷ [] ≡ gauss_lengths n → Ok tt ≡ gauss_check n guesses x w
unfolding gauss_lengths
gauss_enough n guesses x w ok e =
    let g : guesses ≡ guess_count n = cc in
    let p : x ≡ n = cc in
    let q : w ≡ n = cc in
    gauss_done n guesses x w (within 2701 n ok) g (omega arith) (omega arith)

-- `symmetric_eigen`, `householder_ql`
pub eigen_enough : (n a work values vectors : ℕ) → Ok tt ≡ size_check 512 n → a ∷ work ∷ values ∷ vectors ∷ [] ≡ eigen_lengths n
    → Ok tt ≡ eigen_check n a work values vectors
unfolding eigen_lengths
eigen_enough n a work values vectors ok e =
    let p : a ≡ n * n = cc in
    let w : work ≡ n * n + 4 * n = cc in
    let d : values ≡ n = cc in
    let v : vectors ≡ n * n = cc in
    matrices.all_passed n a work values vectors (within 512 n ok) p (omega arith) (omega arith) (omega arith)

-- `polar_cap`
pub cap_enough : (L weights lats work orders concentrations vectors settled : ℕ) → Ok tt ≡ size_check 180 L
    → weights ∷ lats ∷ work ∷ orders ∷ concentrations ∷ vectors ∷ settled ∷ [] ≡ cap_lengths L
    → Ok tt ≡ cap_check L weights lats work orders concentrations vectors settled
unfolding cap_lengths
cap_enough L weights lats work orders concentrations vectors settled ok e =
    let p : weights ≡ L + 1 = cc in
    let q : lats ≡ L + 1 + (L + 1) = cc in
    let w : work ≡ cap_work L = cc in
    let o : orders ≡ table_size L = cc in
    let k : concentrations ≡ table_size L = cc in
    let v : vectors ≡ vectors_size L = cc in
    let t : settled ≡ (L + 1) * 2 = cc in
    caps.all_passed L weights lats work orders concentrations vectors settled (within 180 L ok) p q (omega arith) (omega arith) (omega arith)
    (omega arith) (omega arith)

-- `concentration_matrix`
pub matrix_enough : (L nodes weights lats marks s c work matrix : ℕ) → Ok tt ≡ region_sizes L nodes
    → weights ∷ lats ∷ marks ∷ s ∷ c ∷ work ∷ matrix ∷ [] ≡ matrix_lengths L nodes
    → Ok tt ≡ matrix_check L nodes weights lats marks s c work matrix
unfolding matrix_lengths integrals
matrix_enough L nodes weights lats marks s c work matrix ok e =
    let (top, few) = both (size_check 21 L) (size_check 65535 nodes) ok in
    let p : weights ≡ nodes = cc in
    let q : lats ≡ nodes + nodes = cc in
    let m : marks ≡ nodes = cc in
    let i : s ≡ nodes * integrals L = cc in
    let j : c ≡ nodes * integrals L = cc in
    let w : work ≡ 3 * table_size L = cc in
    let d : matrix ≡ basis_size L * basis_size L = cc in
    let n = nodes_done 21 L nodes weights lats marks s c (within 21 L top) (within 65535 nodes few) p q m i j in
    matrix_done L nodes weights lats marks s c work matrix n (omega arith) (omega arith)

-- `region`
pub region_enough : (L nodes weights lats marks s c work concentrations cs ss : ℕ) → Ok tt ≡ region_sizes L nodes
    → weights ∷ lats ∷ marks ∷ s ∷ c ∷ work ∷ concentrations ∷ cs ∷ ss ∷ [] ≡ region_lengths L nodes
    → Ok tt ≡ region_check L nodes weights lats marks s c work concentrations cs ss
unfolding region_lengths integrals
region_enough L nodes weights lats marks s c work concentrations cs ss ok e =
    let (top, few) = both (size_check 21 L) (size_check 65535 nodes) ok in
    let p : weights ≡ nodes = cc in
    let q : lats ≡ nodes + nodes = cc in
    let m : marks ≡ nodes = cc in
    let i : s ≡ nodes * integrals L = cc in
    let j : c ≡ nodes * integrals L = cc in
    let w : work ≡ region_work L = cc in
    let o : concentrations ≡ basis_size L = cc in
    let u : cs ≡ basis_size L * table_size L = cc in
    let v : ss ≡ basis_size L * table_size L = cc in
    let n = nodes_done 21 L nodes weights lats marks s c (within 21 L top) (within 65535 nodes few) p q m i j in
    regions.all_passed L nodes weights lats marks s c work concentrations cs ss n (omega arith) (omega arith) (omega arith) (omega arith)
