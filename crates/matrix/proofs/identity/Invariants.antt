-- `identity` meets its contract: i rows are written. Assumes nothing.
use Prim.Native.Nat.{◌*◌, ◌≤◌}
use Rattle.storage.specs.Filled.{Filled}
use Rattle.storage.specs.Rectangle.{by_rows}
use Rattle.matrix.specs.Matrix.{kronecker}
use Rattle.matrix.proofs.identity.Given as goal

abbrev pub invariant-loop-i : goal.invariant-loop-i
invariant-loop-i l = (l.i ≤ l.n) × Filled 0 (by_rows kronecker l.n) (l.i * l.n) l.initial.list l.list
