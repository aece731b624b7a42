-- `row_sums` meets its contract: the sums so far are those of the orders below m, and P and its derivatives are at hand. Assumes nothing.
use Rattle.second_sums.specs.Window.{window_start, window_more, window_here, window_first, window_second}
use Rattle.second_sums.specs.Sums.{orders_none, orders_more, orders_all, row_sums}
use Rattle.point_sums.specs.Sums.{cosine_from, sine_from}
use Rattle.derivative.specs.Derivative.{derived_row}
use Rattle.second_sums.specs.Pairs.{scaled_pair}
use Rattle.storage.specs.Elements.{from}
use Rattle.number.specs.Whole.{whole_zero, whole_next}
use Rattle.number.specs.Float64.{zero64}
use lib.Ieee.{nan}
use native.Mathlib.Omega.{arith}
use mathlib.Core.Path.{◌≡◌}
use Prim.Native.Nat.{◌+◌, ◌≤◌}
use Rattle.second_sums.proofs.row_sums.Goals as goal

pub loop-m-init : goal.loop-m-init
loop-m-init c =
    let a = c.args in
    let f = scaled_pair a.rows.now a.r.now in
    let v = from a.at a.w.now nan in (
      omega arith,
      whole_zero,
      window_start a.n v f zero64 c.scaled-p.ensures c.scaled-above.ensures c.derived-d.ensures,
      orders_none _ _ _ _ _ _ _,
    )

pub overflow_add-m : goal.overflow_add-m
overflow_add-m c = omega (arith, c.requires, c.well_formed, c.loop-m-test.true)

pub overflow_add-m-in-loop-m : goal.overflow_add-m-in-loop-m
overflow_add-m-in-loop-m c = omega (arith, c.requires, c.well_formed, c.loop-m-test.true)

pub overflow_add-cos : goal.overflow_add-cos
overflow_add-cos c = omega (arith, c.requires, c.well_formed, c.loop-m-test.true)

pub overflow_add-cos-in-loop-m : goal.overflow_add-cos-in-loop-m
overflow_add-cos-in-loop-m c = omega (arith, c.requires, c.well_formed, c.loop-m-test.true)

pub offset_bounds-trig-k : goal.offset_bounds-trig-k
offset_bounds-trig-k c = omega (arith, c.requires, c.well_formed, c.loop-m-test.true)

pub bounds-trig-k : goal.bounds-trig-k
bounds-trig-k c = omega (arith, c.requires, c.well_formed, c.loop-m-test.true)

pub overflow_add-sin : goal.overflow_add-sin
overflow_add-sin c = omega (arith, c.requires, c.well_formed, c.loop-m-test.true)

pub overflow_add-sin-in-loop-m : goal.overflow_add-sin-in-loop-m
overflow_add-sin-in-loop-m c = omega (arith, c.requires, c.well_formed, c.loop-m-test.true)

pub overflow_add-sin-in-loop-m-2 : goal.overflow_add-sin-in-loop-m-2
overflow_add-sin-in-loop-m-2 c = omega (arith, c.requires, c.well_formed, c.loop-m-test.true)

pub offset_bounds-trig-k-in-loop-m : goal.offset_bounds-trig-k-in-loop-m
offset_bounds-trig-k-in-loop-m c = omega (arith, c.requires, c.well_formed, c.loop-m-test.true)

pub bounds-trig-k-in-loop-m : goal.bounds-trig-k-in-loop-m
bounds-trig-k-in-loop-m c = omega (arith, c.requires, c.well_formed, c.loop-m-test.true)

pub overflow_add-cm : goal.overflow_add-cm
overflow_add-cm c = omega (arith, c.requires, c.well_formed, c.loop-m-test.true)

pub offset_bounds-c-at : goal.offset_bounds-c-at
offset_bounds-c-at c = omega (arith, c.requires, c.well_formed, c.loop-m-test.true)

pub bounds-c-at : goal.bounds-c-at
bounds-c-at c = omega (arith, c.requires, c.well_formed, c.loop-m-test.true)

pub overflow_add-sm : goal.overflow_add-sm
overflow_add-sm c = omega (arith, c.requires, c.well_formed, c.loop-m-test.true)

pub offset_bounds-s-at : goal.offset_bounds-s-at
offset_bounds-s-at c = omega (arith, c.requires, c.well_formed, c.loop-m-test.true)

pub bounds-s-at : goal.bounds-s-at
bounds-s-at c = omega (arith, c.requires, c.well_formed, c.loop-m-test.true)

pub loop-m-smaller : goal.loop-m-smaller
loop-m-smaller c = omega (arith, c.requires, c.well_formed, c.loop-m-test.true)

pub loop-m-preserved : goal.loop-m-preserved
unfolding from cosine_from sine_from
loop-m-preserved c =
    let a = c.args in
    let l = c.loop-m in
    let f = scaled_pair a.rows.now a.r.now in
    let v = from a.at a.w.now nan in
    let d = derived_row a.n v f in
    let h : l.m ≤ a.n = omega arith in
    let two = c.scaled-beyond.ensures in
    let one = c.derived-ahead.ensures in
    let window = l.invariant.2 in (
      omega arith,
      whole_next l.m l.invariant.1 (omega (arith, c.requires, c.loop-m-test.true)),
      window_more a.n v f l.m window two one h,
      orders_more f d (derived_row a.n v d) (from a.at a.c.now nan) (from a.at a.s.now nan) (cosine_from a.k a.trig.now)
          (sine_from a.k a.trig.now) l.m l.invariant.3 (window_here a.n v f l.m window h) (window_first a.n v f l.m window h)
          (window_second a.n v f l.m window two one c.derived-dd.ensures h) l.invariant.1,
    )

pub returns : goal.returns
unfolding row_sums
returns c =
    let a = c.args in
    let e : c.loop-m.m ≡ a.n + 1 = omega arith in
    orders_all _ _ _ _ _ _ _ a.n c.loop-m.invariant.3 e
