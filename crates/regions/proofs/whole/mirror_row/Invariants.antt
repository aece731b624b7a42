-- `mirror_row` meets its contract: k numbers are copied. Assumes nothing.
use Prim.Native.Nat.{◌+◌, ◌≤◌}
use Rattle.storage.specs.Filled.{Filled}
use Rattle.regions.specs.Mirror.{below_diagonal}
use Rattle.regions.proofs.whole.mirror_row.Given as goal

abbrev pub invariant-loop-k : goal.invariant-loop-k
invariant-loop-k l = (l.i + 1 + l.k ≤ l.n) × Filled l.at (below_diagonal l.n l.i l.initial.d) l.k l.initial.d l.d
