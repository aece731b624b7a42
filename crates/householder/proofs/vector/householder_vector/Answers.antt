-- `vector::householder_vector` meets its contract. Assumes nothing.
use native.Mathlib.Omega.{arith}
use borrow.Author.Rules.{rules}
use Rattle.householder.specs.ColumnsLaws.{divided}
use Rattle.householder.proofs.vector.householder_vector.Goals as goal

pub returns : goal.returns
returns c =
    let divide = c.divide in
    let norm = c.norm-s in
    let less = c.less_alpha in
    let pre = c.requires in
    divided _ _ _ less.ensures (omega (arith, pre)) norm.ensures divide.ensures
