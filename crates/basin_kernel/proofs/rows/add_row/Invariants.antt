-- `rows::add_row` meets its contract: the orders below m have the node's numbers added. Assumes nothing.
use Rattle.storage.specs.Filled.{Filled}
use Rattle.basin_kernel.specs.Rows.{added_row}
use Prim.Native.Nat.{◌≤◌}
use Rattle.basin_kernel.proofs.rows.add_row.Given as goal

abbrev pub invariant-loop-m : goal.invariant-loop-m
invariant-loop-m l = (l.first ≤ l.m) × (l.m ≤ l.count) × Filled l.at (added_row l.first l.at l.start l.weight l.q l.r l.integrals l.initial.sums) l.m l.initial.sums l.sums
