-- `point` meets its contract: the sum so far is that of the orders below m. Assumes nothing.
use Rattle.fourier_synthesis.specs.Longitudes.{order_from, orders_below, point_from, order_more}
use lib.Ieee.{binary64, of_bits}
use Rattle.rounding.specs.SumSteps.{running_none}
use native.Mathlib.Omega.{arith}
use mathlib.Core.Path.{◌≡◌, ap, ◌∙◌}
use Prim.Native.Nat.{◌+◌}
use Rattle.fourier_synthesis.proofs.point.Goals as goal

pub loop-m-init : goal.loop-m-init
unfolding of_bits
loop-m-init c = (omega arith, running_none binary64 _ _)

pub loop-m-preserved : goal.loop-m-preserved
unfolding order_from
loop-m-preserved c = let a = c.args in (
  omega arith,
  order_more a.x.now a.y.now
      a.trig.now a.k c.loop-m.m c.loop-m.invariant.1,
)

pub returns : goal.returns
unfolding point_from
returns c =
    let a = c.args in
    let e : c.loop-m.m ≡ a.nmax + 1 = omega arith in
    c.loop-m.invariant.1 ∙ ap (orders_below a.x.now a.y.now a.trig.now a.k) e
