-- `accumulation::accumulate` meets its contract. Assumes nothing.
use native.Mathlib.Omega.{arith}
use borrow.Author.Rules.{rules}
use Rattle.householder.specs.ColumnsLaws.{columns_accumulated}
use Rattle.householder.proofs.accumulation.accumulate.Goals as goal

pub returns : goal.returns
returns c =
    let columns = c.accumulate_columns in
    let product = c.product in
    let pre = c.requires in
    let a = c.args in
    let p = columns_accumulated a.n a.k a.v.now a.q.now (omega (arith, pre)) product.ensures (omega (arith, pre)) (omega (arith, pre)) columns.ensures in
    record { fact_1 = p.0; fact_2 = p.1 }
