-- `eight_points` meets its contract: the eight sums so far are those of the orders below m. Assumes nothing.
use Rattle.fourier_synthesis.specs.Longitudes.{order_from, eight_none, eight_more, eight_to}
use lib.Ieee.{of_bits}
use native.Mathlib.Omega.{arith}
use mathlib.Core.Path.{◌≡◌}
use Prim.Native.Nat.{◌+◌}
use Rattle.fourier_synthesis.proofs.eight_points.Goals as goal

pub loop-m-init : goal.loop-m-init
unfolding of_bits
loop-m-init c = (omega arith, eight_none _ _ _ _ _)

pub loop-m-preserved : goal.loop-m-preserved
unfolding order_from
loop-m-preserved c =
    let a = c.args in (
      omega arith,
      eight_more a.x.now a.y.now
          a.trig.now c.loop-m.invariant.1,
    )

pub returns : goal.returns
returns c =
    let e : c.loop-m.m ≡ c.args.nmax + 1 = omega arith in
    eight_to _ _ _ c.loop-m.invariant.1 e
