-- `clear` meets its contract: so many numbers from the front are +0. Assumes nothing.
use Rattle.storage.specs.Elements.{zero_at}
use Rattle.storage.specs.Filled.{Filled, filled_none, filled_more, filled_to}
use native.Mathlib.Omega.{arith}
use mathlib.Core.Path.{refl}
use Prim.Native.Nat.{◌-◌, ◌≤◌}
use Rattle.storage.proofs.clear.Goals as goal

pub loop-i-init : goal.loop-i-init
loop-i-init c = (omega arith, filled_none)

pub loop-i-preserved : goal.loop-i-preserved
loop-i-preserved c = (omega arith, filled_more c.loop-i.invariant.1 (omega arith) refl)

pub returns : goal.returns
returns c = filled_to c.loop-i.invariant.1 (omega arith)
