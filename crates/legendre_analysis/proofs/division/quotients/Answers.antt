-- `division::quotients` meets its contract: the entries so far are divided. Assumes nothing.
use Rattle.legendre_analysis.specs.Division.{quotient_row}
use Rattle.storage.specs.Filled.{filled_none, filled_more, filled_to, filled_after}
use lib.Ieee.{nan}
use native.Mathlib.Omega.{arith}
use Prim.Native.Nat.{◌+◌}
use Rattle.legendre_analysis.proofs.division.quotients.Goals as goal

pub loop-m-init : goal.loop-m-init
loop-m-init c = (omega arith, filled_none)

pub loop-m-preserved : goal.loop-m-preserved
unfolding quotient_row
loop-m-preserved c =
    let old = filled_after (c.args.at + c.loop-m.m) nan c.loop-m.invariant.1 (omega arith) in
    (omega arith, filled_more c.loop-m.invariant.1 (omega arith) (cc))

pub returns : goal.returns
returns c = filled_to c.loop-m.invariant.1 (omega arith)
