-- `columns::by_fours` meets its contract: the products of the columns before j are added. Assumes nothing.
use native.Mathlib.Omega.{arith}
use mathlib.Core.Path.{◌≡◌}
use Prim.Native.Nat.{◌+◌, ◌-◌, ◌*◌, ◌/◌, ◌≤◌}
use native.Mathlib.Nat.{le_refl, mul-le-mul_right}
use Rattle.storage.specs.Filled.{filled_again}
use Rattle.householder.specs.ColumnsLaws.{product_none, product-four}
use Rattle.householder.proofs.columns.by_fours.Goals as goal

pub loop-block-init : goal.loop-block-init
loop-block-init c =
    let e : c.args.lo + 0 ≡ c.args.lo = omega arith in
    rw e (product_none _ _ _ _ c.clear.ensures)

pub add_four-requires : goal.add_four-requires
add_four-requires c =
    let loop = c.loop-block in
    let a = c.args in
    let h : c.args.lo + 4 * loop.block + 4 ≤ a.n = omega arith in
    record { fact_1 = omega (arith, mul-le-mul_right a.n h); fact_2 = omega (arith, mul-le-mul_right a.n h) }

pub loop-block-preserved : goal.loop-block-preserved
loop-block-preserved c =
    let added = c.add_four in
    let row = c.row in
    let loop = c.loop-block in
    let clear = c.clear in
    let e : c.args.lo + 4 * (loop.block + 1) ≡ c.args.lo + 4 * loop.block + 4 = omega arith in
    rw e (product-four _ _ _ _ loop.invariant (omega (arith, clear.ensures.long)) (omega arith) row.ensures.is added.ensures)

pub returns : goal.returns
returns c =
    let loop = c.loop-block in
    let clear = c.clear in
    let e : loop.block ≡ (c.args.n - c.args.lo) / 4 = omega arith in
    record { fact_1 = omega arith; fact_2 = omega arith; fact_3 = filled_again clear.ensures (rw e at loop.invariant) (le_refl _) }
