-- `subdiagonal` meets its contract: the numbers below index i are written, and those that are read stand behind them. Assumes nothing.
use Prim.Native.Nat.{◌≤◌}
use Rattle.storage.specs.Filled.{Filled}
use Rattle.householder.specs.Columns.{subdiagonal_in}
use Rattle.householder.proofs.subdiagonal.Given as goal

abbrev pub invariant-loop-i : goal.invariant-loop-i
invariant-loop-i l = (l.i ≤ l.n) × Filled 0 (subdiagonal_in l.n l.initial.w) l.i l.initial.w l.w
