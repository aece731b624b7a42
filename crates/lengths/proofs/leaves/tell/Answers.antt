-- `leaves::tell` meets its contract: the lengths go to the front one after the other. Assumes nothing.
use Rattle.storage.specs.Elements.{from_zero}
use Rattle.storage.specs.Filled.{filled_none, filled_more, filled_to}
use Rattle.lengths.specs.Told.{short_refused, told_stored}
use native.Mathlib.Omega.{arith}
use mathlib.Core.Path.{sym}
use Rattle.lengths.proofs.leaves.tell.Goals as goal

pub returns-then-lengths-told : goal.returns-then-lengths-told
returns-then-lengths-told c = short_refused (omega arith)

pub loop-i-init : goal.loop-i-init
loop-i-init c = filled_none

pub loop-i-preserved : goal.loop-i-preserved
loop-i-preserved c = filled_more c.loop-i.invariant (omega arith) (sym (from_zero _ _ _))

pub returns : goal.returns
returns c = told_stored (omega arith) (filled_to c.loop-i.invariant (omega arith))
