-- `columns::add_four` meets its contract: the numbers below index i are written. Assumes nothing.
use Prim.Native.Nat.{◌≤◌}
use Rattle.storage.specs.Filled.{Filled}
use Rattle.householder.specs.Columns.{plus_four}
use Rattle.householder.proofs.columns.add_four.Given as goal

abbrev pub invariant-loop-i : goal.invariant-loop-i
invariant-loop-i l = (l.i ≤ l.n) × Filled 0 (plus_four l.n l.at l.x0 l.x1 l.x2 l.x3 l.w l.initial.p) l.i l.initial.p l.p
