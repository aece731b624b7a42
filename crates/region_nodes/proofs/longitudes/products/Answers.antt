-- `products` meets its contract: the rows above row a are written. Assumes nothing.
use Rattle.region_nodes.specs.Nodes.{product_in}
use Rattle.region_nodes.specs.NodeLaws.{products_more}
use Rattle.region_nodes.specs.Regions.{integrals}
use Rattle.storage.specs.Elements.{from}
use Rattle.storage.specs.Filled.{Filled, filled_none, filled_to}
use Rattle.storage.specs.Rectangle.{by_rows}
use lib.Ieee.{nan}
use borrow.Author.Rules.{rules}
use native.Mathlib.Omega.{arith}
use mathlib.Core.Path.{◌≡◌, refl, ap₂}
use Prim.Native.Nat.{ℕ, ◌-◌, ◌*◌, ◌≤◌}
use Rattle.region_nodes.proofs.longitudes.products.Goals as goal

pub loop-a-init : goal.loop-a-init
unfolding integrals
loop-a-init c = (omega arith, refl, filled_to filled_none (omega arith))

pub product_row-requires : goal.product_row-requires
unfolding integrals
product_row-requires c = record {
  fact_1 = omega arith;
  fact_2 = omega arith;
  fact_3 = omega arith;
  fact_4 = omega arith;
  fact_5 = omega (
    arith,
    c.row.ensures.inside,
    c.loop-a.invariant.2.long,
    c.requires.fact_4,
  );
}

pub loop-a-preserved : goal.loop-a-preserved
loop-a-preserved c = (
  omega arith,
  c.loop-a.invariant.1,
  products_more _ _ _ _ c.loop-a.invariant.1 c.loop-a.invariant.2
      c.product_row.ensures c.row.ensures.is,
)

pub returns : goal.returns
returns c =
    let e : c.loop-a.a ≡ integrals c.args.lmax = omega arith in
    filled_to c.loop-a.invariant.2 (ap₂ (λ (x y : ℕ). x * y) e c.loop-a.invariant.1)
