-- `columns::by_fours` meets its contract: the products of the columns before j are added. Assumes nothing.
use Prim.Native.Nat.{◌+◌, ◌*◌}
use Rattle.storage.specs.Filled.{Filled}
use Rattle.householder.specs.Columns.{columns_product}
use Rattle.householder.proofs.columns.by_fours.Given as goal

abbrev pub invariant-loop-block : goal.invariant-loop-block
invariant-loop-block l = Filled 0 (columns_product l.n l.lo (l.lo + 4 * l.block) l.w l.v) l.n l.initial.p l.p
