-- `count_crossings` meets its contract: the edges before i are counted. Assumes nothing.
use Rattle.polygon.specs.Outline.{crosses, crossing}
use Rattle.polygon.specs.Picked.{picked_before}
use mathlib.Core.Path.{◌≡◌}
use Prim.Native.Nat.{◌≤◌}
use lib.ListN.{length}
use Rattle.polygon.proofs.edges.count_crossings.Given as goal

abbrev pub invariant-loop-i : goal.invariant-loop-i
invariant-loop-i l = (l.i ≤ l.v) × (l.k ≤ l.i) × (l.k ≡ length (picked_before (crosses l.v l.outline l.theta) (crossing l.v l.outline l.theta) l.i))
