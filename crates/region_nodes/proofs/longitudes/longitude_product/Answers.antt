-- `longitude_product` meets its contract: one way through its tests for each pair of kinds. Assumes nothing.
use Rattle.region_nodes.specs.NodeLaws.{product-sines, product_sine_cosine, product_cosine_sine, product-cosines}
use borrow.Author.Rules.{rules}
use Rattle.region_nodes.proofs.longitudes.longitude_product.Goals as goal

pub returns-then-sb : goal.returns-then-sb
returns-then-sb c = product-sines _ _ _ _ _ c.if-sa.true c.if-sb.true c.even.ensures

pub returns-then-sa : goal.returns-then-sa
returns-then-sa c = product_sine_cosine _ _ _ _ _ c.if-sa.true c.if-sb.false c.odd.ensures

pub returns-then-sb-2 : goal.returns-then-sb-2
returns-then-sb-2 c = product_cosine_sine _ _ _ _ _ c.if-sa.false c.if-sb-2.true c.odd-then-sb-2.ensures

pub returns : goal.returns
returns c = product-cosines _ _ _ _ _ c.if-sa.false c.if-sb-2.false c.even-2.ensures
