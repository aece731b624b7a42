-- `add_node` meets its contract: the rows above row i are added. Assumes nothing.
use Rattle.caps.specs.Nodes.{added_node}
use Rattle.storage.specs.Filled.{Filled}
use Rattle.storage.specs.Rectangle.{by_rows}
use mathlib.Core.Path.{◌≡◌}
use Prim.Native.Nat.{◌+◌, ◌*◌, ◌≤◌}
use Rattle.caps.proofs.nodes.add_node.Given as goal

abbrev pub invariant-loop-i : goal.invariant-loop-i
invariant-loop-i l = (l.i ≤ l.k) × (l.row ≡ l.at + l.i * l.k) × Filled l.at (by_rows (added_node l.k l.x l.col l.initial.work l.at) l.k) (l.i * l.k) l.initial.work l.work
