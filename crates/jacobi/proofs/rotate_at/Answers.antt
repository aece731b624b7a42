-- `rotate_at` meets its contract: each way through the test has its law. Assumes nothing.
use lib.Ieee.{Float, eq}
use native.Mathlib.Omega.{arith}
use mathlib.Core.Path.{sym, ap, ◌∙◌}
use borrow.Author.Rules.{rules}
use Rattle.number.specs.Float64.{zero64}
use Rattle.matrix.specs.Layout.{plain, transposed, kept_none, read_plain}
use Rattle.jacobi.specs.Jacobi.{tangent}
use Rattle.jacobi.specs.JacobiLaws.{rotate_none, rotate_some, became_that}
use Rattle.jacobi.proofs.rotate_at.Goals as goal

pub returns-then-a-pq : goal.returns-then-a-pq
returns-then-a-pq c =
    let a = c.args in
    let x = read_plain a.n a.a.now a.p a.q c.cell-pq.ensures.is (omega arith) (omega arith) in
    let test = ap (λ (y : Float). eq y zero64) (sym x) ∙ c.if-a-pq.true in
    record { is = rotate_none a.n a.p a.q (plain a.n a.a.now) (transposed a.n a.v.now) test; matrix = kept_none; product = kept_none }

pub returns : goal.returns
returns c =
    let a = c.args in
    let at = c.cell-pq.ensures.is in
    let x = read_plain a.n a.a.now a.p a.q at (omega arith) (omega arith) in
    let test = ap (λ (y : Float). eq y zero64) (sym x) ∙ c.if-a-pq.false in
    let ratio = c.ratio.ensures in
    let t = c.tangent-t.ensures ∙ ap tangent ratio in
    let cosine = c.cosine-c.ensures in
    let e = rotate_some a.n a.p a.q (plain a.n a.a.now) (transposed a.n a.v.now) test t cosine in
    became_that c.rotate.ensures e
