-- `nodes::add_nodes` meets its contract: the nodes below v are added, and the tables of the recursion stand. Assumes nothing.
use Rattle.basin_kernel.specs.Nodes.{TablesIn, kernel_sum}
use Rattle.matrix.specs.Layout.{Kept}
use Rattle.storage.specs.Triangle.{table_size, along}
use Rattle.storage.specs.Filled.{Filled}
use mathlib.Core.Bool.{true, false}
use mathlib.Core.Path.{◌≡◌}
use Prim.Native.Nat.{◌*◌, ◌≤◌}
use lib.ListN.{length}
use Rattle.basin_kernel.proofs.nodes.add_nodes.Given as goal

abbrev pub invariant-loop-v : goal.invariant-loop-v
invariant-loop-v l = (l.v ≤ l.nodes) × (length l.even ≡ length l.initial.even) × (length l.odd ≡ length l.initial.odd) × TablesIn l.lmax l.total l.work × Kept (3 * l.total) l.initial.work l.work
    × Filled 0 (along (kernel_sum l.lmax l.weights l.latitudes l.marks l.s l.c false l.v)) (table_size l.lmax) l.initial.kc l.kc
    × Filled 0 (along (kernel_sum l.lmax l.weights l.latitudes l.marks l.s l.c true l.v)) (table_size l.lmax) l.initial.ks l.ks
