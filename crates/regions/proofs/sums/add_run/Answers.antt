-- `add_run` meets its contract: the numbers below r are added. Assumes nothing.
use native.Mathlib.Omega.{arith}
use mathlib.Core.Path.{refl}
use Prim.Native.Nat.{◌-◌, ◌≤◌}
use Rattle.storage.specs.Filled.{Filled, filled_none, filled_more, filled_to}
use Rattle.regions.specs.Sums.{added_run, run_next}
use Rattle.regions.proofs.sums.add_run.Goals as goal

pub loop-r-init : goal.loop-r-init
loop-r-init c = (omega arith, filled_none)

pub loop-r-preserved : goal.loop-r-preserved
loop-r-preserved c =
    (omega arith, filled_more c.loop-r.invariant.1 refl (run_next _ _ _ _ _ _ _ _ c.loop-r.invariant.1))

pub returns : goal.returns
returns c = filled_to c.loop-r.invariant.1 (omega arith)
