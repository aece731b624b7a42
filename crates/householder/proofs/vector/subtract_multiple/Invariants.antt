-- `vector::subtract_multiple` meets its contract: the numbers below index i are written. Assumes nothing.
use Prim.Native.Nat.{◌≤◌}
use Rattle.storage.specs.Filled.{Filled}
use Rattle.householder.specs.Columns.{less_multiple}
use Rattle.householder.proofs.vector.subtract_multiple.Given as goal

abbrev pub invariant-loop-i : goal.invariant-loop-i
invariant-loop-i l = (l.i ≤ l.n) × Filled 0 (less_multiple l.x l.v l.initial.p) l.i l.initial.p l.p
