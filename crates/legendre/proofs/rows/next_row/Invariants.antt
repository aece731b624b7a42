-- `rows::next_row` meets its contract: the numbers of the row so far stand where the older row's stood. Assumes nothing.
use Prim.Native.Nat.{◌≤◌}
use Rattle.storage.specs.Filled.{Filled}
use Rattle.legendre.specs.Rows.{next_row}
use Rattle.legendre.proofs.rows.next_row.Given as goal

abbrev pub invariant-loop-m : goal.invariant-loop-m
invariant-loop-m l = (l.m ≤ l.last) × Filled 0 (next_row l.n l.at l.t l.pmm l.a l.b l.newer l.initial.older) l.m l.initial.older l.older
