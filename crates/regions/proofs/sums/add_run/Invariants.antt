-- `add_run` meets its contract: the numbers below r are added. Assumes nothing.
use Prim.Native.Nat.{◌≤◌}
use Rattle.storage.specs.Filled.{Filled}
use Rattle.regions.specs.Sums.{added_run}
use Rattle.regions.proofs.sums.add_run.Given as goal

abbrev pub invariant-loop-r : goal.invariant-loop-r
invariant-loop-r l = (l.r ≤ l.count) × Filled l.at (added_run l.x l.first l.row l.at l.functions l.products l.initial.d) l.r l.initial.d l.d
