-- `recursion::b_row` meets its contract: the orders below m are written, and 0 at the last two. Assumes nothing.
use Rattle.number.specs.Float64.{of_whole}
use Rattle.storage.specs.Filled.{Filled}
use Rattle.recursion.specs.Recursion.{b_cell}
use mathlib.Core.Path.{◌≡◌}
use Prim.Native.Nat.{◌≤◌}
use Rattle.recursion.proofs.b_row.Given as goal

abbrev pub invariant-loop-m : goal.invariant-loop-m
invariant-loop-m l = (l.m ≤ l.last) × (l.mf ≡ of_whole l.m) × Filled l.at (b_cell l.n) l.m l.initial.b l.b
