-- `vector::dot` meets its contract: the terms below index i are added. Assumes nothing.
use mathlib.Core.Path.{◌≡◌}
use Prim.Native.Nat.{◌≤◌}
use lib.Ieee.{nan}
use Rattle.storage.specs.Elements.{from}
use Rattle.householder.specs.Reduction.{dot}
use Rattle.householder.proofs.vector.dot.Given as goal

abbrev pub invariant-loop-i : goal.invariant-loop-i
invariant-loop-i l = (l.lo ≤ l.i) × (l.i ≤ l.hi) × (l.sum ≡ dot (from l.xat l.x nan) (from l.yat l.y nan) l.lo l.i)
