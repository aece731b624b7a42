-- `rows::scale_row` meets its contract: the numbers of the row so far are written. Assumes nothing.
use Prim.Native.Nat.{◌≤◌}
use Rattle.storage.specs.Filled.{Filled}
use Rattle.legendre.specs.Rows.{scaled_row}
use Rattle.legendre.proofs.rows.scale_row.Given as goal

abbrev pub invariant-loop-m : goal.invariant-loop-m
invariant-loop-m l = (l.m ≤ l.count) × Filled l.at (scaled_row l.q l.r) l.m l.initial.p l.p
