-- `accumulation::accumulate_column` meets its contract: the numbers below index i of the column are written. Assumes nothing.
use Prim.Native.Nat.{◌≤◌}
use Rattle.storage.specs.Filled.{Filled}
use Rattle.householder.specs.Columns.{accumulated_run}
use Rattle.householder.proofs.accumulation.accumulate_column.Given as goal

abbrev pub invariant-loop-i : goal.invariant-loop-i
invariant-loop-i l = (l.i ≤ l.n) × Filled l.at (accumulated_run l.at l.vj l.p l.initial.q) l.i l.initial.q l.q
