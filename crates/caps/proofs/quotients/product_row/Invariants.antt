-- `product_row` meets its contract: the first j products of each column are added. Assumes nothing.
use Rattle.caps.specs.Quotients.{row_sum}
use Rattle.storage.specs.Filled.{Filled}
use mathlib.Core.Path.{◌≡◌}
use Prim.Native.Nat.{◌*◌, ◌≤◌}
use Rattle.caps.proofs.quotients.product_row.Given as goal

abbrev pub invariant-loop-j : goal.invariant-loop-j
invariant-loop-j l = (l.j ≤ l.k) × (l.at ≡ l.j * l.k) × Filled 0 (row_sum l.k l.row l.vectors l.work l.j) l.k l.initial.y l.y
