-- `sweeps` meets its contract: each way through the test has its law. Assumes nothing.
use native.Mathlib.Omega.{arith}
use Rattle.jacobi.specs.JacobiLaws.{held, small_is, sweeping_first, sweeping_more, sweeping_settled, sweeping_over}
use Rattle.std.specs.Prelude.{◌≡◌, ℕ, false}
use Rattle.std.proofs.Common.{ap, ◌∙◌}
use Rattle.jacobi.specs.Jacobi.{state}
use Rattle.jacobi.proofs.sweeps.Goals as goal

pub loop-k-init : goal.loop-k-init
loop-k-init c = (omega arith, sweeping_first)

pub returns-then-off_squares-scale : goal.returns-then-off_squares-scale
returns-then-off_squares-scale c =
    let a = c.args in
    let l = c.loop-k in
    let small = small_is a.n a.scale l.a l.v c.off_squares.ensures c.if-off_squares-scale.true in
    record { fact_1 = sweeping_settled l.invariant.1 (omega arith) small; fact_2 = l.invariant.1.matrix; fact_3 = l.invariant.1.product; fact_4 = l.invariant.0 }

pub loop-k-preserved : goal.loop-k-preserved
loop-k-preserved c =
    let a = c.args in
    let l = c.loop-k in
    let off = c.off_squares.ensures in
    let not-small = small_is a.n a.scale l.a l.v off c.if-off_squares-scale.false in
    (omega arith, sweeping_more l.invariant.1 (omega arith) not-small c.sweep.ensures)

pub returns : goal.returns
returns c =
    let a = c.args in
    let l = c.loop-k in
    let r = l.invariant in
    let last : 100 ≡ l.k = omega arith in
    record {
      fact_1 = ap (λ (k : ℕ). state (held a.n l.a l.v) k false) last ∙ sweeping_over r.1 (omega arith);
      fact_2 = r.1.matrix;
      fact_3 = r.1.product;
      fact_4 = omega arith;
    }
