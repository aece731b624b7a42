-- `copy_run` meets its contract: i numbers are copied. Assumes nothing.
use native.Mathlib.Omega.{arith}
use mathlib.Core.Path.{refl}
use Prim.Native.Nat.{◌-◌, ◌≤◌}
use lib.Ieee.{nan}
use Rattle.storage.specs.Elements.{from}
use Rattle.storage.specs.Filled.{Filled, filled_none, filled_more, filled_to}
use Rattle.cap_functions.proofs.copy_run.Goals as goal

pub loop-i-init : goal.loop-i-init
loop-i-init c = (omega arith, filled_none)

pub loop-i-preserved : goal.loop-i-preserved
unfolding from
loop-i-preserved c = (omega arith, filled_more c.loop-i.invariant.1 refl refl)

pub returns : goal.returns
returns c = filled_to c.loop-i.invariant.1 (omega arith)
