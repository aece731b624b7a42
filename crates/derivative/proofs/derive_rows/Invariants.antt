-- `derivative::derive_rows` meets its contract: the rows below n are written. Assumes nothing.
use Rattle.storage.specs.Filled.{Filled}
use Rattle.storage.specs.Triangle.{row_start, along, cells}
use Rattle.derivative.specs.Derivative.{d_cell}
use lib.Ieee.{nan}
use mathlib.Core.Path.{◌≡◌}
use Prim.Native.Nat.{◌+◌, ◌≤◌}
use lib.ListN.{length}
use Rattle.derivative.proofs.derive_rows.Given as goal

abbrev pub invariant-loop-n : goal.invariant-loop-n
invariant-loop-n l = (l.at ≡ row_start l.n) × (l.n ≤ l.nmax + 1) × (length l.w ≡ length l.initial.w) × Filled 0 (along (d_cell (cells l.src nan))) (row_start l.n) l.initial.dst l.dst
