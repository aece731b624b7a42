-- `load` meets its contract: the first i numbers are written. Assumes nothing.
use Prim.Native.Nat.{◌≤◌}
use lib.ListN.{length}
use Rattle.storage.specs.Filled.{Filled}
use Rattle.replay.specs.Answers.{number_at}
use Rattle.replay.proofs.load.Given as goal

abbrev pub invariant-loop-i : goal.invariant-loop-i
invariant-loop-i l = (l.i ≤ length l.initial.out) × Filled 0 (number_at l.words l.at) l.i l.initial.out l.out
