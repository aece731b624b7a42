-- `transpose` meets its contract: i rows are written. Assumes nothing.
use Prim.Native.Nat.{◌*◌, ◌≤◌}
use Rattle.storage.specs.Filled.{Filled}
use Rattle.storage.specs.Rectangle.{by_rows}
use Rattle.matrix.specs.Matrix.{cell}
use Rattle.matrix.specs.Layout.{flipped}
use Rattle.matrix.proofs.transpose.Given as goal

abbrev pub invariant-loop-i : goal.invariant-loop-i
invariant-loop-i l = (l.i ≤ l.n) × Filled 0 (by_rows (flipped (cell l.n l.a)) l.n) (l.i * l.n) l.initial.list l.list
