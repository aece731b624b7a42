-- `same` meets its contract: the sum so far counts the first i numbers. Assumes nothing.
use mathlib.Core.Path.{◌≡◌}
use Prim.Native.Nat.{◌+◌, ◌≤◌}
use lib.ListN.{length}
use Rattle.storage.specs.Fold.{fold_left}
use Rattle.replay.specs.Answers.{agrees_at}
use Rattle.replay.proofs.same.Given as goal

abbrev pub invariant-loop-i : goal.invariant-loop-i
invariant-loop-i l = (l.i ≤ length l.list) × (l.right ≤ l.i) × (l.right ≡ fold_left ◌+◌ (agrees_at l.list l.words l.at) 0 l.i)
