-- `inner_pairs` meets its contract: the pairs of the orders below m are stored, those above are as they were. Assumes nothing.
use Rattle.second_sums.specs.Pairs.{next_pair}
use Rattle.storage.specs.Rectangle.{by_rows}
use Rattle.storage.specs.Filled.{Filled}
use Prim.Native.Nat.{◌*◌, ◌≤◌}
use Rattle.second_sums.proofs.inner_pairs.Given as goal

abbrev pub invariant-loop-m : goal.invariant-loop-m
invariant-loop-m l = (l.m ≤ l.last) × Filled 0 (by_rows (next_pair l.n l.at l.t l.pmm l.a l.b l.initial.rows) 2) (l.m * 2) l.initial.rows l.rows
