-- `clear` meets its contract: so many numbers from the front are +0. Assumes nothing.
use Rattle.storage.specs.Elements.{zero_at}
use Rattle.storage.specs.Filled.{Filled}
use Prim.Native.Nat.{◌≤◌}
use Rattle.storage.proofs.clear.Given as goal

abbrev pub invariant-loop-i : goal.invariant-loop-i
invariant-loop-i l = (l.i ≤ l.size) × Filled 0 zero_at l.i l.initial.list l.list
