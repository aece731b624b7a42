-- `accumulation::accumulate_column` meets its contract: the numbers below index i of the column are written. Assumes nothing.
use native.Mathlib.Omega.{arith}
use mathlib.Core.Path.{refl}
use Prim.Native.Nat.{◌+◌, ◌-◌, ◌≤◌}
use lib.Ieee.{nan}
use Rattle.storage.specs.Filled.{Filled, filled_none, filled_more, filled_to, filled_after}
use Rattle.householder.specs.Columns.{accumulated_run}
use Rattle.householder.proofs.accumulation.accumulate_column.Goals as goal

pub loop-i-init : goal.loop-i-init
loop-i-init c = (omega arith, filled_none)

pub loop-i-preserved : goal.loop-i-preserved
unfolding accumulated_run
loop-i-preserved c =
    let loop = c.loop-i in
    let a = c.args in
    let old = filled_after (a.at + loop.i) nan loop.invariant.1 (omega arith) in
    (omega arith, filled_more loop.invariant.1 refl (cc))

pub returns : goal.returns
returns c = filled_to c.loop-i.invariant.1 (omega arith)
