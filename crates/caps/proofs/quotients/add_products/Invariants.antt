-- `add_products` meets its contract: the columns below col have their products. Assumes nothing.
use Rattle.caps.specs.Quotients.{added_product}
use Rattle.storage.specs.Filled.{Filled}
use Prim.Native.Nat.{◌≤◌}
use Rattle.caps.proofs.quotients.add_products.Given as goal

abbrev pub invariant-loop-col : goal.invariant-loop-col
invariant-loop-col l = (l.col ≤ l.k) × Filled 0 (added_product l.at l.y l.vectors l.initial.sums) l.col l.initial.sums l.sums
