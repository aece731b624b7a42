-- `concentration` meets its contract: the nodes below i are added. Assumes nothing.
use Rattle.caps.specs.Nodes.{partial_cell}
use Rattle.storage.specs.Filled.{Filled}
use Rattle.storage.specs.Rectangle.{by_rows}
use mathlib.Core.Path.{◌≡◌}
use Prim.Native.Nat.{◌+◌, ◌*◌, ◌≤◌}
use lib.ListN.{length}
use Rattle.caps.proofs.nodes.concentration.Given as goal

abbrev pub invariant-loop-i : goal.invariant-loop-i
invariant-loop-i l = (l.i ≤ l.lmax + 1) × (length l.col ≡ length l.initial.col) × Filled l.at (by_rows (partial_cell l.m l.x0 l.weights l.latitudes l.i) l.k) (l.k * l.k) l.initial.work l.work
