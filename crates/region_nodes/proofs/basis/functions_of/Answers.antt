-- `functions_of` meets its contract: the numbers below place r are written. Assumes nothing.
use Rattle.region_nodes.specs.Nodes.{in_row}
use Rattle.region_nodes.specs.NodeLaws.{in_row_lem}
use Rattle.region_nodes.specs.Places.{order_in}
use Rattle.storage.specs.Filled.{Filled, filled_none, filled_more, filled_to}
use borrow.Author.Rules.{rules}
use native.Mathlib.Omega.{arith}
use mathlib.Core.Path.{refl}
use Prim.Native.Nat.{◌+◌, ◌-◌, ◌≤◌}
use Rattle.region_nodes.proofs.basis.functions_of.Goals as goal

pub loop-r-init : goal.loop-r-init
loop-r-init c = (omega arith, filled_none)

pub loop-r-preserved : goal.loop-r-preserved
loop-r-preserved c = (omega arith, filled_more c.loop-r.invariant.1 refl (in_row_lem _ _ _ c.order_in.ensures))

pub returns : goal.returns
returns c = filled_to c.loop-r.invariant.1 (omega arith)

pub overflow_add-functions : goal.overflow_add-functions
unfolding order_in
overflow_add-functions c = omega (arith, c.order_in.ensures)

pub offset_bounds-p-start : goal.offset_bounds-p-start
unfolding order_in
offset_bounds-p-start c = omega (arith, c.order_in.ensures)

pub bounds-p-start : goal.bounds-p-start
unfolding order_in
bounds-p-start c = omega (arith, c.order_in.ensures)
