-- `tables::scale_row` meets its contract: the numbers of the row so far are scaled. Assumes nothing.
use Rattle.coefficients.specs.Values.{scaled_from}
use Rattle.storage.specs.Filled.{Filled}
use Prim.Native.Nat.{◌≤◌}
use Rattle.coefficients.proofs.tables.scale_row.Given as goal

abbrev pub invariant-loop-m : goal.invariant-loop-m
invariant-loop-m l = (l.m ≤ l.count) × Filled l.at (scaled_from l.f l.at l.list) l.m l.initial.out l.out
