-- `legendre::mirrors::mirror_rows` meets its contract: the rows below n are mirrored, and the others stand. Assumes nothing.
use Rattle.storage.specs.Filled.{Filled}
use Rattle.storage.specs.Triangle.{row_start, along}
use Rattle.legendre.specs.Mirrored.{mirrored}
use mathlib.Core.Path.{◌≡◌}
use Prim.Native.Nat.{◌+◌, ◌≤◌}
use Rattle.legendre.proofs.mirrors.mirror_rows.Given as goal

abbrev pub invariant-loop-n : goal.invariant-loop-n
invariant-loop-n l = (l.at ≡ row_start l.n) × (l.n ≤ l.nmax + 1) × Filled 0 (along (mirrored l.shift l.initial.table)) (row_start l.n) l.initial.table l.table
