-- `identity_row` meets its contract: j numbers of the row are written. Assumes nothing.
use Prim.Native.Nat.{◌≤◌}
use Rattle.storage.specs.Filled.{Filled}
use Rattle.matrix.specs.Matrix.{kronecker}
use Rattle.matrix.proofs.identity_row.Given as goal

abbrev pub invariant-loop-j : goal.invariant-loop-j
invariant-loop-j l = (l.j ≤ l.n) × Filled l.at (kronecker l.i) l.j l.initial.list l.list
