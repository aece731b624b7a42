-- `add_row` meets its contract: the sums so far have the degree's numbers added. Assumes nothing.
use native.Mathlib.Omega.{arith}
use lib.Ieee.{nan}
use Rattle.storage.specs.Filled.{filled_none, filled_more, filled_to, filled_after}
use Rattle.lumped_coefficients.specs.Orders.{added_row}
use Rattle.lumped_coefficients.proofs.add_row.Goals as goal

pub loop-m-init : goal.loop-m-init
loop-m-init c = (omega arith, filled_none)

pub loop-m-preserved : goal.loop-m-preserved
unfolding added_row
loop-m-preserved c =
    let l = c.loop-m in
    let old = filled_after l.m nan l.invariant.1 (omega arith) in
    (omega arith, filled_more l.invariant.1 (omega arith) (cc))

pub returns : goal.returns
returns c = filled_to c.loop-m.invariant.1 (omega arith)
