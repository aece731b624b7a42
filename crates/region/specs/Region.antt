-- The Slepian functions of a region, best concentrated first (Simons, Dahlen & Wieczorek 2006): the eigenvectors of its concentration matrix, and the
-- eigenvalues as their concentrations; and the checks of the call. Definitions only.
use Rattle.std.specs.Prelude.{Bool, true, false, cond, List, ℕ, ◌+◌, ◌*◌, ltb, eqb, get_or, Float, Ok, Result, ⊤}
use Rattle.std.specs.Float.{nan}
use Rattle.refusal.specs.Numbers.{refuse, ◌and_then◌}
use Rattle.refusal.specs.declared.Refusal.TheVariants.{Space}
use Rattle.number.specs.Float64.{zero64}
use Rattle.storage.specs.Triangle.{table_size, along}
use Rattle.matrix.specs.Matrix.{cell}
use Rattle.matrix.specs.declared.Convergence.{Convergence}
use Rattle.linalg.specs.Eigen.{eigen_values, eigen_vectors, eigen_convergence}
use Rattle.ranking.specs.Places.{ranked_places}
use Rattle.region_nodes.specs.Basis.{basis_size, place_of}
use Rattle.regions.specs.Checks.{nodes_check}
use Rattle.refusal.specs.declared.Refusal.{Refusal}

module _ (L : ℕ) (D : List Float) where
  -- the functions by their columns in the matrix of eigenvectors, the best concentrated first, equals as they stand: which one is at rank i
  unfoldable pub ranked_at : ℕ → ℕ
  ranked_at i = get_or (ranked_places (eigen_values (basis_size L) D)) i 0

  -- its concentration
  unfoldable pub concentration_at : ℕ → Float
  concentration_at i = get_or (eigen_values (basis_size L) D) (ranked_at i) nan

  -- the coefficient of P(l, m) cos mλ, or sin mλ, of function k; there is no sine at m = 0
  unfoldable pub coefficient_of : Bool → ℕ → ℕ → ℕ → Float
  coefficient_of false k l m = cell (basis_size L) (eigen_vectors (basis_size L) D) (place_of l m false) k
  coefficient_of true k l m = cond (eqb m 0) zero64 (cell (basis_size L) (eigen_vectors (basis_size L) D) (place_of l m true) k)

  -- how the solver ends
  unfoldable pub region_convergence : Convergence
  region_convergence = eigen_convergence (basis_size L) D

  -- the numbers of the function at rank i, as a table
  unfoldable pub numbers_at : Bool → ℕ → ℕ → Float
  numbers_at sine i = along (coefficient_of sine (ranked_at i))

-- how many numbers of the working list are used: 3T, four matrices and 5(L + 1)²
unfoldable pub region_work : ℕ → ℕ
region_work L = 3 * table_size L + 4 * (basis_size L * basis_size L) + 5 * basis_size L

-- the checks of the nodes; then SPACE of the working list and the three outputs
unfoldable pub region_check : (L nodes weights lats marks s c work concentrations cs ss : ℕ) → Result ⊤ Refusal
region_check L nodes weights lats marks s c work concentrations cs ss =
    nodes_check L nodes weights lats marks s c
    and_then refuse (ltb work (region_work L)) Space
    (refuse (ltb concentrations (basis_size L)) Space
    (refuse (ltb cs (basis_size L * table_size L)) Space (refuse (ltb ss (basis_size L * table_size L)) Space (Ok tt))))
