-- `rows::scale_row` meets its contract: the numbers of the row so far are written. Assumes nothing.
use native.Mathlib.Omega.{arith}
use mathlib.Core.Path.{refl}
use Prim.Native.Nat.{◌-◌, ◌≤◌}
use Rattle.storage.specs.Filled.{Filled, filled_none, filled_more, filled_to}
use Rattle.legendre.specs.Rows.{scaled_row}
use Rattle.legendre.proofs.rows.scale_row.Goals as goal

pub loop-m-init : goal.loop-m-init
loop-m-init c = (omega arith, filled_none)

pub loop-m-preserved : goal.loop-m-preserved
unfolding scaled_row
loop-m-preserved c = (omega arith, filled_more c.loop-m.invariant.1 refl refl)

pub returns : goal.returns
returns c = filled_to c.loop-m.invariant.1 (omega arith)
