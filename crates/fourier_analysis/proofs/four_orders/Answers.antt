-- `four_orders` meets its contract: the eight sums so far are those of the longitudes below j. Assumes nothing.
use Rattle.fourier_analysis.specs.Longitudes.{term_from, FourOrders, four_none, four_more, four_to}
use lib.Ieee.{of_bits}
use native.Mathlib.Omega.{arith}
use mathlib.Core.Path.{◌≡◌}
use Prim.Native.Nat.{◌-◌, ◌≤◌}
use Rattle.fourier_analysis.proofs.four_orders.Goals as goal

pub loop-j-init : goal.loop-j-init
unfolding of_bits
loop-j-init c = (omega arith, four_none _ _ _ _ _)

pub loop-j-preserved : goal.loop-j-preserved
unfolding term_from
loop-j-preserved c =
    let a = c.args in
    let l = c.loop-j in
    (omega arith, four_more a.values.now a.trig.now l.invariant.1)

pub returns : goal.returns
returns c =
    let e : c.loop-j.j ≡ c.args.longitudes = omega arith in
    four_to _ _ c.loop-j.invariant.1 e
