-- `by_fours` meets its contract: the sums of the orders below m are written. Assumes nothing.
use Rattle.fourier_analysis.specs.Longitudes.{lanes}
use Rattle.storage.specs.Filled.{filled_none, filled_join, filled_to}
use native.Mathlib.Nat.{mul-le-mul_right}
use native.Mathlib.Omega.{arith}
use mathlib.Core.Path.{◌≡◌, refl}
use Prim.Native.Nat.{◌+◌, ◌*◌, ◌/◌, ◌≤◌}
use Rattle.fourier_analysis.proofs.by_fours.Goals as goal

pub loop-block-init : goal.loop-block-init
loop-block-init c = (omega arith, filled_to filled_none (omega arith))

pub four_orders-v-requires : goal.four_orders-v-requires
four_orders-v-requires c =
    let h : 4 * c.loop-block.block + 4 ≤ c.args.nmax + 1 = omega arith in
    let up = mul-le-mul_right c.args.stride h in
    record { fact_1 = omega arith; fact_2 = omega arith }

pub loop-block-preserved : goal.loop-block-preserved
loop-block-preserved c =
    let a = c.args in
    let l = c.loop-block in
    let four = c.four_orders-v.ensures in
    let v = lanes a.values.now a.trig.now four (4 * l.block) a.longitudes refl (omega arith) l.invariant.0 in
    (omega arith, filled_to (filled_join l.invariant.1 c.store_eight.ensures (omega arith) v) (omega arith))

pub returns : goal.returns
returns c =
    let e : c.loop-block.block ≡ (c.args.nmax + 1) / 4 = omega arith in
    record { fact_1 = omega arith; fact_2 = rw e at c.loop-block.invariant.1 }
