-- `first_rescales` meets its contract. Assumes nothing.
use Rattle.caps.specs.Nodes.{first_rescale}
use Rattle.storage.specs.Filled.{Filled}
use Prim.Native.Nat.{◌≤◌}
use Rattle.caps.proofs.nodes.first_rescales.Given as goal

abbrev pub invariant-loop-i : goal.invariant-loop-i
invariant-loop-i l = (l.i ≤ l.count) × Filled 0 first_rescale l.i l.initial.rescales l.rescales
