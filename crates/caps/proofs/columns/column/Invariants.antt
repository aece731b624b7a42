-- `column` meets its contract: the last number of the column and the one before it. Assumes nothing.
use Rattle.caps.specs.Columns.{column_cell, before}
use Rattle.storage.specs.Filled.{Filled}
use Rattle.storage.specs.Elements.{from}
use Rattle.storage.specs.Triangle.{idx}
use Rattle.recursion.specs.Recursion.{q}
use lib.Ieee.{nan}
use mathlib.Core.Path.{◌≡◌}
use Prim.Native.Nat.{◌+◌, ◌≤◌}
use Rattle.caps.proofs.columns.column.Given as goal

abbrev pub invariant-loop-i : goal.invariant-loop-i
invariant-loop-i l = (l.i ≤ l.k) × (l.at ≡ idx (l.m + l.i) l.m) × (l.q1 ≡ q (from 0 l.work nan) (from l.total l.work nan) l.t l.m l.i)
    × (l.q2 ≡ before (from 0 l.work nan) (from l.total l.work nan) l.t l.m l.i) × Filled 0 (column_cell (from 0 l.work nan) (from l.total l.work nan) l.t l.rescale l.m) l.i l.initial.col l.col
