-- `division::divide_degrees` meets its contract: the degrees below n are divided. Assumes nothing.
use Rattle.legendre_analysis.specs.Division.{divided_cell}
use Rattle.storage.specs.Triangle.{row_start, along}
use Rattle.storage.specs.Elements.{from}
use lib.Ieee.{nan}
use Rattle.storage.specs.Filled.{Filled}
use mathlib.Core.Path.{◌≡◌}
use Prim.Native.Nat.{◌+◌, ◌≤◌}
use Rattle.legendre_analysis.proofs.division.divide_degrees.Given as goal

abbrev pub invariant-loop-n : goal.invariant-loop-n
invariant-loop-n l = (l.at ≡ row_start l.n) × (l.n ≤ l.nmax + 1) × Filled 0 (along (divided_cell (from 0 l.factors nan) l.initial.c)) (row_start l.n) l.initial.c l.c
