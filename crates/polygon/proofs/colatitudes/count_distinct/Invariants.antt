-- `count_distinct` meets its contract: the numbers before i are counted. Assumes nothing.
use Rattle.polygon.specs.Outline.{is_first, number_at}
use Rattle.polygon.specs.Picked.{picked_before}
use Rattle.ranking.specs.Places.{rising}
use mathlib.Core.Path.{◌≡◌}
use Prim.Native.Nat.{◌≤◌}
use lib.ListN.{length}
use Rattle.polygon.proofs.colatitudes.count_distinct.Given as goal

abbrev pub invariant-loop-i : goal.invariant-loop-i
invariant-loop-i l = (l.i ≤ l.n) × (l.k ≤ l.i) × (l.k ≡ length (picked_before (is_first (rising l.keys)) (number_at (rising l.keys)) l.i))
