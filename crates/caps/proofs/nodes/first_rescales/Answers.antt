-- `first_rescales` meets its contract. Assumes nothing.
use Rattle.caps.specs.Nodes.{first_rescale}
use Rattle.storage.specs.Filled.{Filled, filled_none, filled_more, filled_to}
use native.Mathlib.Omega.{arith}
use mathlib.Core.Path.{refl}
use Prim.Native.Nat.{◌-◌, ◌≤◌}
use Rattle.caps.proofs.nodes.first_rescales.Goals as goal

pub loop-i-init : goal.loop-i-init
loop-i-init c = (omega arith, filled_none)

pub loop-i-preserved : goal.loop-i-preserved
loop-i-preserved c = (omega arith, filled_more c.loop-i.invariant.1 (omega arith) refl)

pub returns : goal.returns
returns c = filled_to c.loop-i.invariant.1 (omega arith)
