-- `ratio` meets its contract. Assumes nothing.
use mathlib.Core.Path.{ap₂, ap}
use lib.Ieee.{Float}
use native.Mathlib.Omega.{arith}
use borrow.Author.Rules.{rules}
use Rattle.number.specs.Float64.{◌⊖◌, ◌⊗◌, ◌⊘◌, double}
use Rattle.matrix.specs.Layout.{read_plain}
use Rattle.jacobi.specs.Jacobi.{ratio}
use Rattle.jacobi.proofs.ratio.Goals as goal

pub returns : goal.returns
unfolding ratio
returns c =
    let a = c.args in
    let qq = read_plain a.n a.a.now a.q a.q c.cell-qq.ensures.is (omega arith) (omega arith) in
    let pp = read_plain a.n a.a.now a.p a.p c.cell-pp.ensures.is (omega arith) (omega arith) in
    let pq = read_plain a.n a.a.now a.p a.q c.cell-pq.ensures.is (omega arith) (omega arith) in
    ap₂ ◌⊘◌ (ap₂ ◌⊖◌ qq pp) (ap (λ (x : Float). double 0x4000_0000_0000_0000 ⊗ x) pq)
