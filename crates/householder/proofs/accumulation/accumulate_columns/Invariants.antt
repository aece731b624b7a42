-- `accumulation::accumulate_columns` meets its contract: j columns from lo on are written. Assumes nothing.
use Prim.Native.Nat.{◌+◌, ◌*◌, ◌≤◌}
use Rattle.storage.specs.Filled.{Filled}
use Rattle.storage.specs.Rectangle.{by_rows}
use Rattle.householder.specs.Columns.{accumulated_columns}
use Rattle.householder.proofs.accumulation.accumulate_columns.Given as goal

abbrev pub invariant-loop-j : goal.invariant-loop-j
invariant-loop-j l = (l.lo + l.j ≤ l.n) × Filled (l.lo * l.n) (by_rows (accumulated_columns l.n l.lo l.v l.p l.initial.q) l.n) (l.j * l.n) l.initial.q l.q
