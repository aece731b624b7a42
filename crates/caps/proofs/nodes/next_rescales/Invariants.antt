-- `next_rescales` meets its contract: the powers of the nodes below i are the next ones. Assumes nothing.
use Rattle.caps.specs.Nodes.{next_rescale}
use Rattle.storage.specs.Filled.{Filled}
use Prim.Native.Nat.{◌≤◌}
use Rattle.caps.proofs.nodes.next_rescales.Given as goal

abbrev pub invariant-loop-i : goal.invariant-loop-i
invariant-loop-i l = (l.i ≤ l.count) × Filled 0 (next_rescale l.latitudes l.initial.rescales) l.i l.initial.rescales l.rescales
