-- `columns::add_multiple` meets its contract: the numbers below index i are written. Assumes nothing.
use Prim.Native.Nat.{◌≤◌}
use Rattle.storage.specs.Filled.{Filled}
use Rattle.householder.specs.Columns.{plus_multiple}
use Rattle.householder.proofs.columns.add_multiple.Given as goal

abbrev pub invariant-loop-i : goal.invariant-loop-i
invariant-loop-i l = (l.i ≤ l.n) × Filled 0 (plus_multiple l.at l.x l.w l.initial.p) l.i l.initial.p l.p
