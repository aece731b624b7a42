-- `recursion::a_row` meets its contract: the orders below m are written, and 0 on the diagonal. Assumes nothing.
use Rattle.number.specs.Float64.{of_whole}
use Rattle.storage.specs.Filled.{Filled}
use Rattle.recursion.specs.Recursion.{a_cell}
use mathlib.Core.Path.{◌≡◌}
use Prim.Native.Nat.{◌≤◌}
use Rattle.recursion.proofs.a_row.Given as goal

abbrev pub invariant-loop-m : goal.invariant-loop-m
invariant-loop-m l = (l.m ≤ l.n) × (l.mf ≡ of_whole l.m) × Filled l.at (a_cell l.n) l.m l.initial.a l.a
