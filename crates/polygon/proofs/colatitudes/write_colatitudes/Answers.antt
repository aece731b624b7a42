-- `write_colatitudes` meets its contract: the colatitudes of the vertices before i are written. Assumes nothing.
use Rattle.storage.specs.Filled.{filled_none, filled_more, filled_to}
use native.Mathlib.Omega.{arith}
use Rattle.polygon.proofs.colatitudes.write_colatitudes.Goals as goal

pub loop-i-init : goal.loop-i-init
loop-i-init c = (omega arith, filled_none)

pub loop-i-preserved : goal.loop-i-preserved
loop-i-preserved c = (omega arith, filled_more c.loop-i.invariant.1 (omega arith) c.colatitude.ensures)

pub returns : goal.returns
returns c = filled_to c.loop-i.invariant.1 (omega arith)
