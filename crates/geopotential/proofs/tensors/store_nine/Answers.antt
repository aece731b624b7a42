-- `store_nine` meets its contract. Assumes nothing.
use Rattle.local.specs.Second.{tensor_cell}
use Rattle.storage.specs.Rectangle.{by_rows}
use Rattle.storage.specs.Filled.{filled_none, filled_more, filled_to}
use native.Mathlib.Omega.{arith}
use mathlib.Core.Path.{refl}
use Rattle.geopotential.proofs.tensors.store_nine.Goals as goal

pub loop-k-init : goal.loop-k-init
loop-k-init c = filled_none

pub loop-k-preserved : goal.loop-k-preserved
unfolding by_rows tensor_cell
loop-k-preserved c = filled_more c.loop-k.invariant (omega arith) refl

pub returns : goal.returns
returns c = filled_to c.loop-k.invariant (omega arith)
