-- `points_eight` meets its contract: the values of the blocks so far are written. Assumes nothing.
use Rattle.fourier_synthesis.specs.Longitudes.{lanes}
use Rattle.storage.specs.Filled.{filled_none, filled_join, filled_to}
use native.Mathlib.Nat.{mul-le-mul_right}
use native.Mathlib.Omega.{arith}
use mathlib.Core.Path.{◌≡◌, refl}
use Prim.Native.Nat.{◌+◌, ◌*◌, ◌/◌, ◌≤◌}
use Rattle.fourier_synthesis.proofs.points_eight.Goals as goal

pub loop-block-init : goal.loop-block-init
loop-block-init c = (omega arith, filled_none)

pub eight_points-v-requires : goal.eight_points-v-requires
eight_points-v-requires c =
    let h : 8 * c.loop-block.block + 8 ≤ c.args.longitudes = omega arith in
    let up = mul-le-mul_right c.args.stride h in
    record { fact_1 = omega arith; fact_2 = omega arith; fact_3 = omega arith }

pub loop-block-preserved : goal.loop-block-preserved
loop-block-preserved c =
    let a = c.args in
    let l = c.loop-block in
    let eight = c.eight_points-v.ensures in
    let v = lanes a.x.now a.y.now a.trig.now eight a.nmax (8 * l.block) refl (omega arith) l.invariant.0 in
    (omega arith, filled_to (filled_join l.invariant.1 c.store_eight.ensures refl v) (omega arith))

pub returns : goal.returns
returns c =
    let e : c.loop-block.block ≡ c.args.longitudes / 8 = omega arith in
    record { fact_1 = omega arith; fact_2 = rw e at c.loop-block.invariant.1 }
