-- `vector::less_alpha` meets its contract: the numbers below index i are written. Assumes nothing.
use borrow.Author.Rules.{rules}
use native.Mathlib.Omega.{arith}
use Prim.Native.Nat.{◌-◌, ◌≤◌}
use lib.Ieee.{nan}
use Rattle.storage.specs.Elements.{from}
use Rattle.storage.specs.Filled.{Filled, filled_none, filled_more, filled_to}
use Rattle.householder.specs.Reduction.{less_alpha}
use Rattle.householder.proofs.vector.less_alpha.Goals as goal

pub loop-i-init : goal.loop-i-init
loop-i-init c = (omega arith, filled_none)

pub loop-i-preserved : goal.loop-i-preserved
unfolding less_alpha from
loop-i-preserved c = (omega arith, filled_more c.loop-i.invariant.1 (omega arith) c.less_alpha_at.ensures)

pub returns : goal.returns
returns c = filled_to c.loop-i.invariant.1 (omega arith)
