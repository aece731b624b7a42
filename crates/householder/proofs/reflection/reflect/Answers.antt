-- `reflection::reflect` meets its contract. Assumes nothing.
use native.Mathlib.Omega.{arith}
use borrow.Author.Rules.{rules}
use Rattle.householder.specs.ColumnsLaws.{columns_reflected}
use Rattle.householder.proofs.reflection.reflect.Goals as goal

pub returns : goal.returns
returns c =
    let update = c.update in
    let less = c.subtract_multiple in
    let dot = c.dot-vp in
    let product = c.product in
    let pre = c.requires in
    let a = c.args in
    let p = columns_reflected a.n a.k a.v.now a.w.now (omega (arith, pre)) product.ensures (omega (arith, pre)) dot.ensures less.ensures update.ensures in
    record { fact_1 = p.0; fact_2 = p.1 }
