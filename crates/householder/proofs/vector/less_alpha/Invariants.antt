-- `vector::less_alpha` meets its contract: the numbers below index i are written. Assumes nothing.
use Prim.Native.Nat.{◌≤◌}
use lib.Ieee.{nan}
use Rattle.storage.specs.Elements.{from}
use Rattle.storage.specs.Filled.{Filled}
use Rattle.householder.specs.Reduction.{less_alpha}
use Rattle.householder.proofs.vector.less_alpha.Given as goal

abbrev pub invariant-loop-i : goal.invariant-loop-i
invariant-loop-i l = (l.i ≤ l.n) × Filled 0 (less_alpha l.k l.size (from l.at l.w nan)) l.i l.initial.v l.v
