-- `products` meets its contract: the rows above row a are written. Assumes nothing.
use Rattle.region_nodes.specs.Nodes.{product_in}
use Rattle.region_nodes.specs.Regions.{integrals}
use Rattle.storage.specs.Elements.{from}
use Rattle.storage.specs.Filled.{Filled}
use Rattle.storage.specs.Rectangle.{by_rows}
use lib.Ieee.{nan}
use mathlib.Core.Path.{◌≡◌}
use Prim.Native.Nat.{◌*◌, ◌≤◌}
use Rattle.region_nodes.proofs.longitudes.products.Given as goal

abbrev pub invariant-loop-a : goal.invariant-loop-a
invariant-loop-a l = (l.a ≤ l.count) × (l.count ≡ integrals l.lmax) × Filled 0 (by_rows (product_in (from l.at l.s nan) (from l.at l.c nan)) (integrals l.lmax)) (l.a * l.count) l.initial.products l.products
