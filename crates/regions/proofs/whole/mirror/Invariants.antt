-- `mirror` meets its contract: the rows above row i have their upper half. Assumes nothing.
use Prim.Native.Nat.{◌*◌, ◌≤◌}
use Rattle.storage.specs.Filled.{Filled}
use Rattle.storage.specs.Rectangle.{by_rows}
use Rattle.regions.specs.Mirror.{mirrored}
use Rattle.regions.proofs.whole.mirror.Given as goal

abbrev pub invariant-loop-i : goal.invariant-loop-i
invariant-loop-i l = (l.i ≤ l.n) × Filled 0 (by_rows (mirrored l.n l.initial.d) l.n) (l.i * l.n) l.initial.d l.d
