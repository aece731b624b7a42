-- The nodes of a kernel, one after the other. Assumes nothing.
use Rattle.std.specs.Prelude.{◌≡◌, Bool, cond, ◌&&◌, List, ℕ, ◌+◌, ◌*◌, ◌≤◌, ◌<◌, eqb, length, get_or, Float}
use Rattle.std.specs.Float.{nan}
use Rattle.number.specs.Float64.{zero64}
use Rattle.storage.specs.Iterate.{iterate}
use Rattle.storage.specs.Triangle.{table_size, along, cells}
use Rattle.recursion.specs.Recursion.{a_cell, b_cell}
use Rattle.basin_kernel.specs.Kernel.{add_term}

-- the two tables of the recursion stand at the front of a working list that is three tables long
pub record TablesIn (L total : ℕ) (w : List Float) : Type 0 where
  pub size : total ≡ table_size L
  pub long : 3 * total ≤ length w
  pub of_a : (k : ℕ) → k < total → get_or w k nan ≡ along a_cell k
  pub of_b : (k : ℕ) → k < total → get_or w (total + k) nan ≡ along b_cell k

module _ (L : ℕ) (weights lats : List Float) (marks : List ℕ) (s c : List Float) (sine : Bool) where
  -- a table with node ν's number added to each of its numbers; there is no sine of order 0
  unfoldable pub node_added : ℕ → List Float → ℕ → ℕ → Float
  node_added ν d l m = cond (sine && eqb m 0) (cells d nan l m) (add_term L weights lats marks s c sine l m ν (cells d nan l m))

  -- the sum over the nodes below ν
  unfoldable pub kernel_sum : ℕ → ℕ → ℕ → Float
  kernel_sum ν l m = cond (sine && eqb m 0) zero64 (iterate (add_term L weights lats marks s c sine l m) 0 ν zero64)
