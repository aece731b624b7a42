-- `mirror_row` meets its contract: k numbers are copied. Assumes nothing.
use native.Mathlib.Omega.{arith}
use mathlib.Core.Path.{refl}
use Rattle.storage.specs.Filled.{filled_none, filled_more, filled_to}
use Rattle.regions.specs.Mirror.{below_next}
use Rattle.regions.proofs.whole.mirror_row.Goals as goal

pub loop-k-init : goal.loop-k-init
loop-k-init c = (omega arith, filled_none)

pub loop-k-preserved : goal.loop-k-preserved
loop-k-preserved c = (omega arith, filled_more c.loop-k.invariant.1 refl (below_next _ _ _ _ c.requires.fact_3 c.cell-from.ensures.is (omega arith) c.loop-k.invariant.1))

pub returns : goal.returns
returns c = filled_to c.loop-k.invariant.1 (omega arith)
