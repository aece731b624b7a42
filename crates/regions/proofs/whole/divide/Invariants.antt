-- `divide` meets its contract: the numbers below i are divided. Assumes nothing.
use Prim.Native.Nat.{◌≤◌}
use Rattle.storage.specs.Filled.{Filled}
use Rattle.regions.specs.Mirror.{over_four_pi}
use Rattle.regions.proofs.whole.divide.Given as goal

abbrev pub invariant-loop-i : goal.invariant-loop-i
invariant-loop-i l = (l.i ≤ l.size) × Filled 0 (over_four_pi l.initial.d) l.i l.initial.d l.d
