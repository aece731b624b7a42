-- `transpose_row` meets its contract: j numbers of the row are written. Assumes nothing.
use Prim.Native.Nat.{◌≤◌}
use Rattle.storage.specs.Filled.{Filled}
use Rattle.matrix.specs.Matrix.{cell}
use Rattle.matrix.specs.Layout.{flipped}
use Rattle.matrix.proofs.transpose_row.Given as goal

abbrev pub invariant-loop-j : goal.invariant-loop-j
invariant-loop-j l = (l.j ≤ l.n) × Filled l.at (flipped (cell l.n l.a) l.i) l.j l.initial.list l.list
