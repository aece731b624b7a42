-- `divide` meets its contract: the numbers below i are divided. Assumes nothing.
use native.Mathlib.Omega.{arith}
use Prim.Native.Nat.{◌-◌, ◌≤◌}
use lib.Ieee.{nan}
use Rattle.storage.specs.Filled.{Filled, filled_none, filled_more, filled_to, filled_after}
use Rattle.regions.specs.Mirror.{over_four_pi}
use Rattle.regions.proofs.whole.divide.Goals as goal

pub loop-i-init : goal.loop-i-init
loop-i-init c = (omega arith, filled_none)

pub loop-i-preserved : goal.loop-i-preserved
unfolding over_four_pi
loop-i-preserved c =
    let old = filled_after c.loop-i.i nan c.loop-i.invariant.1 (omega arith) in
    (omega arith, filled_more c.loop-i.invariant.1 (omega arith) (cc))

pub returns : goal.returns
returns c = filled_to c.loop-i.invariant.1 (omega arith)
