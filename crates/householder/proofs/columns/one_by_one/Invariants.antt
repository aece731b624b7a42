-- `columns::one_by_one` meets its contract: the products of the columns before j are added. Assumes nothing.
use Prim.Native.Nat.{◌≤◌}
use Rattle.storage.specs.Filled.{Filled}
use Rattle.householder.specs.Columns.{columns_product}
use Rattle.householder.proofs.columns.one_by_one.Given as goal

abbrev pub invariant-loop-j : goal.invariant-loop-j
invariant-loop-j l = (l.lo ≤ l.j) × (l.j ≤ l.n) × Filled 0 (columns_product l.n l.lo l.j l.w l.v) l.n l.initial.p l.p
