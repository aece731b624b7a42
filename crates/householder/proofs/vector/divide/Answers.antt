-- `vector::divide` meets its contract: the numbers below index i are divided. Assumes nothing.
use native.Mathlib.Omega.{arith}
use Prim.Native.Nat.{◌-◌, ◌≤◌}
use lib.Ieee.{nan}
use Rattle.storage.specs.Filled.{Filled, filled_none, filled_more, filled_to, filled_after}
use Rattle.householder.specs.Columns.{quotient}
use Rattle.householder.proofs.vector.divide.Goals as goal

pub loop-i-init : goal.loop-i-init
loop-i-init c = (omega arith, filled_none)

pub loop-i-preserved : goal.loop-i-preserved
unfolding quotient
loop-i-preserved c =
    let loop = c.loop-i in
    let old = filled_after loop.i nan loop.invariant.1 (omega arith) in
    (omega arith, filled_more loop.invariant.1 (omega arith) (cc))

pub returns : goal.returns
returns c = filled_to c.loop-i.invariant.1 (omega arith)
