-- The Slepian functions of a polar cap, best concentrated first (Simons, Dahlen & Wieczorek 2006), and the checks of the call. Definitions only.
use Rattle.std.specs.Prelude.{Bool, not, cond, ℕ, ◌+◌, ◌*◌, ltb, eqb, Float, Ok, Result, ⊤}
use mathlib.Core.List.{List, map, flatten}
use Rattle.refusal.specs.Numbers.{refuse}
use Rattle.refusal.specs.declared.Refusal.TheVariants.{Size, Length, Space}
use Rattle.number.specs.Float64.{of_whole}
use Rattle.number.specs.Order.{ranks_before}
use Rattle.number.specs.Ranking.{ranking}
use Rattle.storage.specs.Tabulate.{tabulate}
use Rattle.storage.specs.Triangle.{table_size}
use Rattle.matrix.specs.Matrix.{cell}
use Rattle.matrix.specs.declared.Convergence.{Convergence}
use Rattle.linalg.specs.Eigen.{eigen_vectors, eigen_convergence}
use Rattle.linalg.specs.Solution.{settled_number}
use Rattle.caps.specs.Caps.{degrees, concentration, grunbaum, rayleigh}
use Rattle.refusal.specs.declared.Refusal.{Refusal}
unfoldable pub use Rattle.cap_functions.specs.Functions.{in_column, functions_below, functions, vectors_size, cap_work}

-- the vectors of order m are the columns of a matrix: the eigenvectors of Grünbaum's
unfoldable pub vectors_of : ℕ → Float → ℕ → List Float
vectors_of L x₀ m = eigen_vectors (degrees L m) (grunbaum L m x₀)

-- how the solver of order m ends; the nodes do not enter Grünbaum's matrix
unfoldable pub convergence_of : ℕ → Float → ℕ → Convergence
convergence_of L x₀ m = eigen_convergence (degrees L m) (grunbaum L m x₀)

-- the two numbers that tell it: 1 where it settled or 0, then its count
unfoldable pub told : Convergence → ℕ → Float
told c i = of_whole (cond (eqb i 0) (settled_number c.settled) c.count)

unfoldable pub told_of : ℕ → Float → ℕ → ℕ → Float
told_of L x₀ m i = told (convergence_of L x₀ m) i

-- a function's coefficients, for the degrees l = m .. L
unfoldable pub coefficient : ℕ → Float → ℕ × ℕ → ℕ → Float
coefficient L x₀ p i = cell (degrees L p.0) (vectors_of L x₀ p.0) i p.1

unfoldable pub coefficients : ℕ → Float → ℕ × ℕ → List Float
coefficients L x₀ p = tabulate (coefficient L x₀ p) 0 (degrees L p.0)

unfoldable pub order_of : ℕ × ℕ → Float
order_of p = of_whole p.0

module _ (L : ℕ) (x₀ : Float) (weights lats : List Float) where
  -- its concentration: Rayleigh's quotient with the concentration matrix of its order
  unfoldable pub concentration_in : ℕ → ℕ → Float
  concentration_in m col = rayleigh (degrees L m) (concentration L m x₀ weights lats) (vectors_of L x₀ m) col

  unfoldable pub concentration_of : ℕ × ℕ → Float
  concentration_of p = concentration_in p.0 p.1

  unfoldable pub better_than : ℕ × ℕ → ℕ × ℕ → Bool
  better_than p q = ranks_before (concentration_of p) (concentration_of q)

  -- all functions, the best concentrated first, equals as they stand
  unfoldable pub ranked : List (ℕ × ℕ)
  ranked = ranking better_than (functions L)

  -- the answer: the orders as numbers, the concentrations, and the coefficients end to end
  unfoldable pub cap_orders : List Float
  cap_orders = map order_of ranked

  unfoldable pub cap_concentrations : List Float
  cap_concentrations = map concentration_of ranked

  unfoldable pub cap_vectors : List Float
  cap_vectors = flatten (map (coefficients L x₀) ranked)

-- ---- the checks
-- SIZE of the degree; LENGTH of the weights and the pairs of the latitudes; SPACE of the working list and the four outputs
unfoldable pub cap_check : (L weights lats work orders concentrations vectors settled : ℕ) → Result ⊤ Refusal
cap_check L weights lats work orders concentrations vectors settled =
    refuse (ltb 180 L) Size
    (refuse (not (eqb weights (L + 1))) Length
    (refuse (not (eqb lats (L + 1 + (L + 1)))) Length
    (refuse (ltb work (cap_work L)) Space
    (refuse (ltb orders (table_size L)) Space
    (refuse (ltb concentrations (table_size L)) Space
    (refuse (ltb vectors (vectors_size L)) Space (refuse (ltb settled ((L + 1) * 2)) Space (Ok tt))))))))
