-- The checks of the calls on regions, and what a symmetric answer is. Definitions only.
use Rattle.std.specs.Prelude.{◌≡◌, not, List, ℕ, ◌+◌, ◌*◌, ◌<◌, ltb, eqb, Float, Ok, Result, ⊤}
use Rattle.refusal.specs.Numbers.{refuse, ◌and_then◌}
use Rattle.refusal.specs.declared.Refusal.TheVariants.{Size, Length, Space}
use Rattle.storage.specs.Triangle.{table_size}
use Rattle.matrix.specs.Matrix.{cell}
use Rattle.region_nodes.specs.Basis.{basis_size}
use Rattle.region_nodes.specs.Regions.{integrals}
use Rattle.refusal.specs.declared.Refusal.{Refusal}

-- SIZE of the degree, which may be up to most, and of the nodes; LENGTH of the five lists of the nodes
unfoldable pub nodes_check_to : (most L nodes weights lats marks s c : ℕ) → Result ⊤ Refusal
nodes_check_to most L nodes weights lats marks s c =
    refuse (ltb most L) Size
    (refuse (ltb 65535 nodes) Size
    (refuse (not (eqb weights nodes)) Length
    (refuse (not (eqb lats (nodes + nodes))) Length
    (refuse (not (eqb marks nodes)) Length
    (refuse (not (eqb s (nodes * integrals L))) Length (refuse (not (eqb c (nodes * integrals L))) Length (Ok tt)))))))

-- a region's functions go up to degree 21
abbrev pub nodes_check : (L nodes weights lats marks s c : ℕ) → Result ⊤ Refusal
nodes_check = nodes_check_to 21

-- then SPACE of the working list, three tables long, and of the matrix
unfoldable pub matrix_check : (L nodes weights lats marks s c work matrix : ℕ) → Result ⊤ Refusal
matrix_check L nodes weights lats marks s c work matrix =
    nodes_check L nodes weights lats marks s c
    and_then refuse (ltb work (3 * table_size L)) Space (refuse (ltb matrix (basis_size L * basis_size L)) Space (Ok tt))

-- a list that holds an n by n matrix, where the call is done, has the same number at (i, j) and (j, i), NaN counting as NaN
abbrev pub Symmetric : Result ⊤ Refusal → ℕ → List Float → Type 0
Symmetric x n l = x ≡ Ok tt → (i j : ℕ) → i < n → j < n → cell n l i j ≡ cell n l j i
