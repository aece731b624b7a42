-- `reflection::update_column` meets its contract: the numbers below index i of the column are written. Assumes nothing.
use Prim.Native.Nat.{◌≤◌}
use Rattle.storage.specs.Filled.{Filled}
use Rattle.householder.specs.Columns.{updated_run}
use Rattle.householder.proofs.reflection.update_column.Given as goal

abbrev pub invariant-loop-i : goal.invariant-loop-i
invariant-loop-i l = (l.i ≤ l.n) × Filled l.at (updated_run l.at l.vj l.qj l.v l.q l.initial.w) l.i l.initial.w l.w
