-- `points::all_points` meets its contract: the points before point i are written. Assumes nothing.
use Rattle.second_partials.specs.Working.{worked_none, worked_more}
use Rattle.second_partials.specs.Promise.{second_row}
use Rattle.storage.specs.Rectangle.{by_rows_more}
use Rattle.storage.specs.Filled.{filled_none, filled_to}
use native.Mathlib.Nat.{mul-le-mul_right}
use native.Mathlib.Omega.{arith}
use mathlib.Core.Path.{◌≡◌, refl, ap}
use Prim.Native.Nat.{ℕ, ◌+◌, ◌*◌}
use Rattle.second_partials.proofs.points.all_points.Goals as goal

pub loop-i-init : goal.loop-i-init
loop-i-init c = (omega arith, omega arith, filled_to filled_none (omega arith), worked_none c.requires.nmax_in_bounds_4, refl)

pub latitude_of-latitude-requires : goal.latitude_of-latitude-requires
latitude_of-latitude-requires c = omega (arith, c.requires.field_room_5, c.loop-i-test.true)

pub offset_bounds-radii-i : goal.offset_bounds-radii-i
offset_bounds-radii-i c = omega (arith, c.requires.field_room_3, c.loop-i-test.true)

pub bounds-radii-i : goal.bounds-radii-i
bounds-radii-i c = omega (arith, c.requires.field_room_4, c.loop-i-test.true)

pub point-x-requires : goal.point-x-requires
point-x-requires c =
    let h = c.requires in
    let l = c.loop-i.invariant in
    let n = c.args.nmax in
    let up = mul-le-mul_right (n + n + 2) c.loop-i-test.true in
    let room = h.field_room_1 in record {
      fact_1 = record {
        top = room.top;
        of_c = room.of_c;
        of_s = room.of_s;
        of_rows = omega (arith, room.of_rows, l.4);
      };
      fact_2 = h.field_room_2;
      fact_3 = omega (arith, h.nmax_in_bounds_1, up);
      fact_4 = omega (arith, h.nmax_in_bounds_3, l.3.long);
      fact_5 = l.3.ready;
    }

pub store_point-requires : goal.store_point-requires
store_point-requires c = omega (arith, c.loop-i.invariant.1, c.loop-i.invariant.2.long, c.loop-i-test.true, c.requires.nmax_in_bounds_2)

pub overflow_add-at : goal.overflow_add-at
overflow_add-at c = omega (arith, c.loop-i.invariant.1, c.loop-i-test.true, c.requires.field_room_3)

pub loop-i-smaller : goal.loop-i-smaller
loop-i-smaller c = omega (arith, c.loop-i-test.true)

pub loop-i-preserved : goal.loop-i-preserved
loop-i-preserved c =
    let a = c.args in
    let l = c.loop-i in
    let pair = c.latitude_of-latitude.ensures in
    let x = c.point-x.ensures.value in let worked = c.point-x.ensures.worked in
    let kept = c.point-x.auto.rows in
    let row =
    second_row a.gm a.radius a.nmax a.c.now a.s.now a.trig.now a.radii.now a.latitudes.now l.i refl pair.fact_1 pair.fact_2
    x c.store_point.ensures in (
      omega (arith, c.loop-i-test.true),
      omega (arith, l.invariant.1),
      by_rows_more _ 10 l.i l.invariant.2 row refl l.invariant.1,
      worked_more l.invariant.3 worked,
      omega (arith, kept, l.invariant.4),
    )

pub returns : goal.returns
returns c =
    let e : c.loop-i.i ≡ c.args.points = omega arith in
    record { filled = filled_to c.loop-i.invariant.2 (ap (λ (k : ℕ). k * 10) e); worked = c.loop-i.invariant.3 }
