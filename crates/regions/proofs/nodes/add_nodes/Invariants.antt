-- `add_nodes` meets its contract: the nodes below v are added. Assumes nothing.
use mathlib.Core.Path.{◌≡◌}
use Prim.Native.Nat.{◌*◌, ◌≤◌}
use lib.ListN.{length}
use Rattle.storage.specs.Filled.{Filled}
use Rattle.storage.specs.Rectangle.{by_rows}
use Rattle.region_nodes.specs.Basis.{basis_size}
use Rattle.regions.specs.Nodes.{partial_cell}
use Rattle.regions.proofs.nodes.add_nodes.Given as goal

abbrev pub invariant-loop-v : goal.invariant-loop-v
invariant-loop-v l = (l.v ≤ l.nodes) × (length l.p ≡ length l.initial.p) × (length l.functions ≡ length l.initial.functions) × (length l.products ≡ length l.initial.products)
    × Filled 0 (by_rows (partial_cell l.lmax l.weights l.latitudes l.marks l.s l.c l.v) (basis_size l.lmax)) (basis_size l.lmax * basis_size l.lmax) l.initial.d l.d
