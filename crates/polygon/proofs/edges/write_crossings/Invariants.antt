-- `write_crossings` meets its contract: the crossings of the edges before i are written. Assumes nothing.
use Rattle.polygon.specs.Outline.{crosses, crossing}
use Rattle.polygon.specs.PickedLaws.{PickedIn}
use Prim.Native.Nat.{◌≤◌}
use Rattle.polygon.proofs.edges.write_crossings.Given as goal

abbrev pub invariant-loop-i : goal.invariant-loop-i
invariant-loop-i l = (l.i ≤ l.v) × PickedIn (crosses l.v l.outline l.theta) (crossing l.v l.outline l.theta) l.i l.k l.initial.list l.list
