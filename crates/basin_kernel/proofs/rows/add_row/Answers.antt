-- `rows::add_row` meets its contract: the orders below m have the node's numbers added. Assumes nothing.
use Rattle.storage.specs.Filled.{filled_more, filled_to}
use Rattle.basin_kernel.specs.Rows.{row_first, row_next}
use native.Mathlib.Omega.{arith}
use mathlib.Core.Path.{refl}
use Rattle.basin_kernel.proofs.rows.add_row.Goals as goal

pub loop-m-init : goal.loop-m-init
loop-m-init c = (omega arith, omega arith, row_first _ _ _ _ _ _ _ _)

pub loop-m-preserved : goal.loop-m-preserved
loop-m-preserved c =
    let l = c.loop-m in
    (omega arith, omega arith, filled_more l.invariant.2 refl (row_next _ _ _ _ _ _ _ _ l.m l.invariant.0 l.invariant.2))

pub returns : goal.returns
returns c = filled_to c.loop-m.invariant.2 (omega arith)
