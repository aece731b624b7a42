-- `ranked::write_functions` meets its contract: i functions are written. Assumes nothing.
use native.Mathlib.Omega.{arith}
use mathlib.Core.Path.{sym, ap}
use Prim.Native.Nat.{ℕ, ◌+◌, ◌<◌}
use lib.ListN.{get_or}
use lib.Ieee.{nan}
use native.Mathlib.Nat.{zero-add}
use Rattle.number.specs.Float64.{of_whole}
use Rattle.number.specs.Whole.{whole}
use Rattle.storage.specs.Filled.{filled_none, filled_more, filled_to}
use Rattle.cap_functions.specs.CapRanked.{picked_order, picked_number}
use Rattle.cap_functions.proofs.ranked.write_functions.Goals as goal

pub loop-i-init : goal.loop-i-init
loop-i-init c = (omega arith, filled_none, filled_none)

pub offset_bounds-places-i : goal.offset_bounds-places-i
offset_bounds-places-i c = omega (arith, c.requires.fact_1.long)

pub bounds-places-i : goal.bounds-places-i
bounds-places-i c = omega (arith, c.requires.fact_1.long)

pub offset_bounds-order-f : goal.offset_bounds-order-f
offset_bounds-order-f c =
    let inside : c.from-f.result < c.args.n = (let f = c.requires.fact_1.inside c.loop-i.i c.loop-i-test.true in omega arith) in
    omega (arith, inside, c.requires.fact_2.of_orders)

pub bounds-order-f : goal.bounds-order-f
bounds-order-f c =
    let inside : c.from-f.result < c.args.n = (let f = c.requires.fact_1.inside c.loop-i.i c.loop-i-test.true in omega arith) in
    omega (arith, inside, c.requires.fact_2.of_orders)

pub int_to_float-orders : goal.int_to_float-orders
int_to_float-orders c =
    let inside : c.from-f.result < c.args.n = (let f = c.requires.fact_1.inside c.loop-i.i c.loop-i-test.true in omega arith) in
    let r = c.requires.fact_2 in
    let m = r.order c.from-f.result inside in
    whole _ (omega (arith, m, r.few))

pub overflow_add-concentrations : goal.overflow_add-concentrations
overflow_add-concentrations c =
    let inside : c.from-f.result < c.args.n = (let f = c.requires.fact_1.inside c.loop-i.i c.loop-i-test.true in omega arith) in
    omega (arith, inside)

pub offset_bounds-work-at : goal.offset_bounds-work-at
offset_bounds-work-at c =
    let inside : c.from-f.result < c.args.n = (let f = c.requires.fact_1.inside c.loop-i.i c.loop-i-test.true in omega arith) in
    omega (arith, inside)

pub bounds-work-at : goal.bounds-work-at
bounds-work-at c =
    let inside : c.from-f.result < c.args.n = (let f = c.requires.fact_1.inside c.loop-i.i c.loop-i-test.true in omega arith) in
    omega (arith, inside)

pub loop-i-preserved : goal.loop-i-preserved
unfolding picked_order picked_number
loop-i-preserved c =
    let a = c.args in
    let loop = c.loop-i in
    let place = c.from-f.ensures in (
      omega arith,
      filled_more loop.invariant.1 (sym (zero-add _)) (ap (λ (f : ℕ). of_whole (get_or a.order.now f 0)) place),
      filled_more loop.invariant.2 (sym (zero-add _)) (ap (λ (f : ℕ). get_or a.work.now (a.at + f) nan) place),
    )

pub returns : goal.returns
returns c = record { fact_1 = filled_to c.loop-i.invariant.1 (omega arith); fact_2 = filled_to c.loop-i.invariant.2 (omega arith) }
