-- `changed` meets its contract: of the first i places at most i are changed. Assumes nothing.
use Prim.Native.Nat.{◌≤◌}
use Rattle.replay_cases.proofs.changed.Given as goal

abbrev pub invariant-loop-i : goal.invariant-loop-i
invariant-loop-i g l = (l.count ≤ l.i) × (l.end ≤ l.i) × (l.count ≤ 64) × (l.end ≤ 64)
