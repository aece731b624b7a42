-- `write_crossings` meets its contract: the crossings of the edges before i are written. Assumes nothing.
use Rattle.polygon.specs.Outline.{crossings}
use Rattle.polygon.specs.PickedLaws.{picked_none, all_picked}
use native.Mathlib.Omega.{arith}
use Rattle.polygon.proofs.edges.write_crossings.Goals as goal

pub loop-i-init : goal.loop-i-init
loop-i-init c = (omega arith, picked_none _ _)

pub loop-i-preserved : goal.loop-i-preserved
loop-i-preserved c = (omega arith, c.write_edge-k.ensures.goes _ c.loop-i.invariant.1)

pub returns : goal.returns
unfolding crossings
returns c = all_picked _ _ c.loop-i.invariant.1 (omega arith)
