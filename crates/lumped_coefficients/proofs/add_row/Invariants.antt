-- `add_row` meets its contract: the sums so far have the degree's numbers added. Assumes nothing.
use Prim.Native.Nat.{◌≤◌}
use Rattle.storage.specs.Filled.{Filled}
use Rattle.lumped_coefficients.specs.Orders.{added_row}
use Rattle.lumped_coefficients.proofs.add_row.Given as goal

abbrev pub invariant-loop-m : goal.invariant-loop-m
invariant-loop-m l = (l.m ≤ l.count) × Filled 0 (added_row l.factor l.at l.p l.c l.initial.sums) l.m l.initial.sums l.sums
