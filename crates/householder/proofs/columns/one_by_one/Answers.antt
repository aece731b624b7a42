-- `columns::one_by_one` meets its contract: the products of the columns before j are added. Assumes nothing.
use borrow.Author.Rules.{rules}
use native.Mathlib.Omega.{arith}
use Prim.Native.Nat.{◌-◌, ◌≤◌}
use Rattle.storage.specs.Filled.{Filled}
use Rattle.householder.specs.Columns.{columns_product}
use Rattle.householder.specs.ColumnsLaws.{product_more, product_to}
use Rattle.householder.proofs.columns.one_by_one.Goals as goal

pub loop-j-init : goal.loop-j-init
loop-j-init c = (omega arith, omega arith, c.requires.filled)

pub loop-j-preserved : goal.loop-j-preserved
loop-j-preserved c =
    let added = c.add_multiple in
    let row = c.row in
    let loop = c.loop-j in
    (omega arith, omega arith, product_more _ _ _ _ loop.invariant.2 (omega arith) loop.invariant.0 row.ensures.is added.ensures)

pub returns : goal.returns
returns c = product_to _ _ _ _ c.loop-j.invariant.2 (omega arith)
