-- `same_bytes` meets its contract: the sum so far counts the first i bytes. Assumes nothing.
use mathlib.Core.Path.{◌≡◌}
use Prim.Native.Nat.{◌+◌, ◌≤◌}
use lib.ListN.{length}
use Rattle.storage.specs.Fold.{fold_left}
use Rattle.replay.specs.Answers.{equal_at}
use Rattle.replay.proofs.same_bytes.Given as goal

abbrev pub invariant-loop-i : goal.invariant-loop-i
invariant-loop-i l = (l.i ≤ length l.list) × (l.right ≤ l.i) × (l.right ≡ fold_left ◌+◌ (equal_at l.list l.bytes l.at) 0 l.i)
