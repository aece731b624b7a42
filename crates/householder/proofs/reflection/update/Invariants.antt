-- `reflection::update` meets its contract: the columns before j are written. Assumes nothing.
use Prim.Native.Nat.{◌*◌, ◌≤◌}
use Rattle.storage.specs.Filled.{Filled}
use Rattle.storage.specs.Rectangle.{by_rows}
use Rattle.householder.specs.Columns.{updated_columns}
use Rattle.householder.proofs.reflection.update.Given as goal

abbrev pub invariant-loop-j : goal.invariant-loop-j
invariant-loop-j l = (l.j ≤ l.n) × Filled 0 (by_rows (updated_columns l.n l.v l.q l.initial.w) l.n) (l.j * l.n) l.initial.w l.w
