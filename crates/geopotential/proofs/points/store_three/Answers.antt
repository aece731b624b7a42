-- `store_three` meets its contract. Assumes nothing.
use Rattle.storage.specs.Elements.{from_zero}
use Rattle.storage.specs.Filled.{filled_none, filled_more, filled_to}
use native.Mathlib.Omega.{arith}
use mathlib.Core.Path.{sym}
use Rattle.geopotential.proofs.points.store_three.Goals as goal

pub loop-i-init : goal.loop-i-init
loop-i-init c = filled_none

pub loop-i-preserved : goal.loop-i-preserved
loop-i-preserved c = filled_more c.loop-i.invariant (omega arith) (sym (from_zero _ _ _))

pub returns : goal.returns
returns c = filled_to c.loop-i.invariant (omega arith)
