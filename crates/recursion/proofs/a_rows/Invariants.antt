-- `recursion::a_rows` meets its contract: the rows below n are written. Assumes nothing.
use Rattle.recursion.specs.Recursion.{a_cell}
use Rattle.storage.specs.Triangle.{row_start, rows_from}
use Rattle.storage.specs.Filled.{Filled}
use mathlib.Core.Path.{◌≡◌}
use Prim.Native.Nat.{◌+◌, ◌-◌, ◌≤◌}
use Rattle.recursion.proofs.a_rows.Given as goal

abbrev pub invariant-loop-n : goal.invariant-loop-n
invariant-loop-n l = (l.at ≡ row_start l.n) × (l.first ≤ l.n) × (l.n ≤ l.nmax + 1) × Filled l.start (rows_from a_cell l.first) (row_start l.n - l.start) l.initial.a l.a
