-- `points::all_points` meets its contract: the points before point i are written. Assumes nothing.
use Rattle.partials.specs.Promise.{along-row}
use Rattle.point_sums.specs.Sums.{room_kept}
use Rattle.storage.specs.Rectangle.{by_rows_more}
use Rattle.storage.specs.Filled.{filled_none, filled_to}
use native.Mathlib.Nat.{mul-le-mul_right}
use native.Mathlib.Omega.{arith}
use mathlib.Core.Path.{◌≡◌, refl, ap}
use Prim.Native.Nat.{ℕ, ◌+◌, ◌*◌}
use Rattle.partials.proofs.points.all_points.Goals as goal

pub loop-i-init : goal.loop-i-init
loop-i-init c = (omega arith, omega arith, filled_to filled_none (omega arith), refl, refl, refl, refl, refl)

pub latitude_of-latitude-requires : goal.latitude_of-latitude-requires
latitude_of-latitude-requires c =
    let pre = c.requires in
    omega (arith, pre.points_bound_3, c.loop-i-test.true)

pub offset_bounds-radii-i : goal.offset_bounds-radii-i
offset_bounds-radii-i c =
    let pre = c.requires in
    omega (arith, pre.points_bound_1, c.loop-i-test.true)

pub bounds-radii-i : goal.bounds-radii-i
bounds-radii-i c =
    let pre = c.requires in
    omega (arith, pre.points_bound_2, c.loop-i-test.true)

pub point-x-requires : goal.point-x-requires
point-x-requires c =
    let args = c.args in
    let loop = c.loop-i in
    let loop-test = c.loop-i-test in
    let pre = c.requires in
    let l = loop.invariant in
    let n = args.nmax in
    let up = mul-le-mul_right (n + n + 2) loop-test.true in record { point_room = room_kept pre.point_room l.3 l.4 l.5 l.6 l.7; nmax_in_bounds_1 = omega (arith, pre.points_bound_4, up); nmax_in_bounds_2 = pre.tabled_1; nmax_in_bounds_3 = pre.tabled_2 }

pub store_point-requires : goal.store_point-requires
store_point-requires c =
    let pre = c.requires in
    let loop = c.loop-i in
    let loop-test = c.loop-i-test in
    omega (arith, loop.invariant.1, loop.invariant.2.long, loop-test.true, pre.points_bound_5)

pub overflow_add-at : goal.overflow_add-at
overflow_add-at c =
    let pre = c.requires in
    let loop = c.loop-i in
    let loop-test = c.loop-i-test in
    omega (arith, loop.invariant.1, loop-test.true, pre.points_bound_1)

pub loop-i-smaller : goal.loop-i-smaller
loop-i-smaller c =
    let loop-test = c.loop-i-test in
    omega (arith, loop-test.true)

pub loop-i-preserved : goal.loop-i-preserved
loop-i-preserved c =
    let loop-test = c.loop-i-test in
    let latitude-of = c.latitude_of-latitude in
    let point = c.point-x in
    let a = c.args in
    let l = c.loop-i in
    let pair = latitude-of.ensures in
    let kept = point.auto in
    let row =
    along-row a.gm a.radius a.nmax a.c.now a.s.now a.trig.now a.radii.now a.latitudes.now l.i refl pair.fact_1 pair.fact_2
    point.ensures c.store_point.ensures in (
      omega (arith, loop-test.true),
      omega (arith, l.invariant.1),
      by_rows_more _ 4 l.i l.invariant.2 row refl l.invariant.1,
      omega (arith, kept.rescales, l.invariant.3),
      omega (arith, kept.even, l.invariant.4),
      omega (arith, kept.odd, l.invariant.5),
      omega (arith, kept.p, l.invariant.6),
      omega (arith, kept.d, l.invariant.7),
    )

pub returns : goal.returns
returns c =
    let args = c.args in
    let e : c.loop-i.i ≡ args.points = omega arith in
    filled_to c.loop-i.invariant.2 (ap (λ (k : ℕ). k * 4) e)
