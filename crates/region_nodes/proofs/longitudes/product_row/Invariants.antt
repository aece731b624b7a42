-- `product_row` meets its contract: the products with the factors below place b are written. Assumes nothing.
use Rattle.region_nodes.specs.Nodes.{product_in}
use Rattle.storage.specs.Elements.{from}
use Rattle.storage.specs.Filled.{Filled}
use lib.Ieee.{nan}
use Prim.Native.Nat.{◌+◌, ◌≤◌}
use Rattle.region_nodes.proofs.longitudes.product_row.Given as goal

abbrev pub invariant-loop-b : goal.invariant-loop-b
invariant-loop-b l = (l.b ≤ l.lmax + l.lmax + 1) × Filled l.to (product_in (from l.at l.s nan) (from l.at l.c nan) l.a) l.b l.initial.products l.products
