-- `vector::divide` meets its contract: the numbers below index i are divided. Assumes nothing.
use Prim.Native.Nat.{◌≤◌}
use Rattle.storage.specs.Filled.{Filled}
use Rattle.householder.specs.Columns.{quotient}
use Rattle.householder.proofs.vector.divide.Given as goal

abbrev pub invariant-loop-i : goal.invariant-loop-i
invariant-loop-i l = (l.i ≤ l.n) × Filled 0 (quotient l.s l.initial.v) l.i l.initial.v l.v
