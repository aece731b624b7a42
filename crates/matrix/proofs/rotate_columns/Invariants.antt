-- `rotate_columns` meets its contract: in k rows the pair is rotated. Assumes nothing.
use Prim.Native.Nat.{◌*◌, ◌≤◌}
use Rattle.storage.specs.Filled.{Filled}
use Rattle.storage.specs.Rectangle.{by_rows}
use Rattle.matrix.specs.Matrix.{cell, columns_rotated}
use Rattle.matrix.proofs.rotate_columns.Given as goal

abbrev pub invariant-loop-k : goal.invariant-loop-k
invariant-loop-k l = (l.k ≤ l.n) × Filled 0 (by_rows (columns_rotated l.c l.s l.p l.q (cell l.n l.initial.list)) l.n) (l.k * l.n) l.initial.list l.list
