-- `product_row` meets its contract: the products with the factors below place b are written. Assumes nothing.
use Rattle.region_nodes.specs.NodeLaws.{product_places}
use Rattle.region_nodes.specs.Nodes.{product_in}
use Rattle.region_nodes.specs.Places.{order_in}
use Rattle.storage.specs.Elements.{from}
use Rattle.storage.specs.Filled.{Filled, filled_none, filled_more, filled_to}
use lib.Ieee.{nan}
use borrow.Author.Rules.{rules}
use native.Mathlib.Omega.{arith}
use mathlib.Core.Path.{refl}
use Prim.Native.Nat.{◌+◌, ◌-◌, ◌≤◌}
use Rattle.region_nodes.proofs.longitudes.product_row.Goals as goal

pub loop-b-init : goal.loop-b-init
loop-b-init c = (omega arith, filled_none)

pub loop-b-preserved : goal.loop-b-preserved
loop-b-preserved c = (
  omega arith,
  filled_more c.loop-b.invariant.1 refl
      (product_places _ _ _ _ c.order_in-order.ensures
      c.sine_in-sine.ensures c.order_in.ensures c.sine_in.ensures
      c.longitude_product.ensures),
)

pub returns : goal.returns
returns c = filled_to c.loop-b.invariant.1 (omega arith)

pub longitude_product-requires : goal.longitude_product-requires
unfolding order_in
longitude_product-requires c = record { fact_1 = omega arith; fact_2 = omega arith }
