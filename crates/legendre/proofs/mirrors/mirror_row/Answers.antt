-- `legendre::mirrors::mirror_row` meets its contract: every other sign of the orders below m is turned. Assumes nothing.
use Rattle.storage.specs.Filled.{filled_to}
use Rattle.legendre.specs.Mirrored.{row_first, row_next}
use native.Mathlib.Omega.{arith}
use Rattle.legendre.proofs.mirrors.mirror_row.Goals as goal

pub loop-pair-init : goal.loop-pair-init
loop-pair-init c = row_first _ _ _ _ _ (omega arith)

pub loop-pair-preserved : goal.loop-pair-preserved
loop-pair-preserved c = filled_to (row_next _ _ _ _ _ c.loop-pair.invariant (omega arith) (omega arith)) (omega arith)

pub returns : goal.returns
returns c = filled_to c.loop-pair.invariant (omega arith)
