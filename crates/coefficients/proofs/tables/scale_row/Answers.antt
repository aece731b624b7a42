-- `tables::scale_row` meets its contract: the numbers of the row so far are scaled. Assumes nothing.
use Rattle.coefficients.specs.Values.{scaled_from}
use Rattle.storage.specs.Filled.{Filled, filled_none, filled_more, filled_to}
use native.Mathlib.Omega.{arith}
use mathlib.Core.Path.{refl}
use Prim.Native.Nat.{◌-◌, ◌≤◌}
use Rattle.coefficients.proofs.tables.scale_row.Goals as goal

pub loop-m-init : goal.loop-m-init
loop-m-init c = (omega arith, filled_none)

pub loop-m-preserved : goal.loop-m-preserved
unfolding scaled_from
loop-m-preserved c = (omega arith, filled_more c.loop-m.invariant.1 refl refl)

pub returns : goal.returns
returns c = filled_to c.loop-m.invariant.1 (omega arith)
