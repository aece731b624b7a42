-- `write_distinct` meets its contract: what is kept of the numbers before i is written. Assumes nothing.
use Rattle.polygon.specs.Outline.{is_first, number_at}
use Rattle.polygon.specs.PickedLaws.{PickedIn}
use Rattle.ranking.specs.Places.{rising}
use mathlib.Core.Path.{◌≡◌}
use Prim.Native.Nat.{◌≤◌}
use lib.ListN.{length}
use Rattle.polygon.proofs.colatitudes.write_distinct.Given as goal

abbrev pub invariant-loop-i : goal.invariant-loop-i
invariant-loop-i l = (l.i ≤ l.n) × (length l.out ≡ length l.initial.out) × PickedIn (is_first (rising l.keys)) (number_at (rising l.keys)) l.i l.k l.initial.out l.out
