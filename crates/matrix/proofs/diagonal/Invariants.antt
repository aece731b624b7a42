-- `diagonal` meets its contract: i numbers are written. Assumes nothing.
use Prim.Native.Nat.{◌≤◌}
use Rattle.storage.specs.Filled.{Filled}
use Rattle.matrix.specs.Matrix.{diagonal_cell}
use Rattle.matrix.proofs.diagonal.Given as goal

abbrev pub invariant-loop-i : goal.invariant-loop-i
invariant-loop-i l = (l.i ≤ l.n) × Filled 0 (diagonal_cell l.n l.a) l.i l.initial.list l.list
