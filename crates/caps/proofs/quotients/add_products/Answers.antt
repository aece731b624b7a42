-- `add_products` meets its contract: the columns below col have their products. Assumes nothing.
use Rattle.caps.specs.Quotients.{added_product, product_next}
use Rattle.storage.specs.Filled.{Filled, filled_none, filled_more, filled_to}
use native.Mathlib.Omega.{arith}
use Prim.Native.Nat.{◌-◌, ◌≤◌}
use Rattle.caps.proofs.quotients.add_products.Goals as goal

pub loop-col-init : goal.loop-col-init
loop-col-init c = (omega arith, filled_none)

pub loop-col-preserved : goal.loop-col-preserved
loop-col-preserved c = (
  omega arith,
  filled_more c.loop-col.invariant.1 (omega arith) (product_next _ _ _ _ _
      c.loop-col.invariant.1),
)

pub returns : goal.returns
returns c = filled_to c.loop-col.invariant.1 (omega arith)
