-- `sum_degrees` meets its contract: the sum so far is that of the degrees below n. Assumes nothing.
use Rattle.storage.specs.Triangle.{row_start_zero, row_start_more, row_within}
use Rattle.rounding.specs.Sums.{triangle_sum}
use Rattle.rounding.specs.SumSteps.{triangle_none}
use Rattle.slepian.specs.Average.{degree_added}
use lib.Ieee.{binary64, of_bits}
use native.Mathlib.Omega.{arith}
use mathlib.Core.Path.{◌≡◌, sym, ap, ◌∙◌}
use Prim.Native.Nat.{◌+◌}
use Rattle.slepian.proofs.sum_degrees.Goals as goal

pub loop-n-init : goal.loop-n-init
unfolding of_bits
loop-n-init c = (omega arith, sym row_start_zero, triangle_none binary64 _)

pub add_degree-sum-requires : goal.add_degree-sum-requires
add_degree-sum-requires c =
    let w = row_within c.loop-n.n c.args.top (omega arith) (omega arith) in
    record { fact_1 = omega arith; fact_2 = omega arith; fact_3 = omega arith; fact_4 = omega arith }

pub overflow_add-at : goal.overflow_add-at
overflow_add-at c =
    let w = row_within c.loop-n.n c.args.top (omega arith) (omega arith) in
    omega arith

pub overflow_add-at-in-loop-n : goal.overflow_add-at-in-loop-n
overflow_add-at-in-loop-n c =
    let w = row_within c.loop-n.n c.args.top (omega arith) (omega arith) in
    omega arith

pub loop-n-preserved : goal.loop-n-preserved
loop-n-preserved c =
    let more = row_start_more c.loop-n.n in
    (omega arith, omega arith, degree_added _ _ _ _ _ c.loop-n.n c.loop-n.invariant.1 c.degree_factor-factor.ensures c.loop-n.invariant.2 c.add_degree-sum.ensures)

pub returns : goal.returns
returns c =
    let e : c.loop-n.n ≡ c.args.top + 1 = omega arith in
    c.loop-n.invariant.2 ∙ ap (triangle_sum binary64 _) e
