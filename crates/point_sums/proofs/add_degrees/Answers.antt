-- `sums::add_degrees` meets its contract: the degrees below n are added, and the last two rows of the recursion are at hand. Assumes nothing.
use Rattle.point_sums.specs.Sums.{degrees_none, degrees_more, degrees_to}
use Rattle.storage.specs.Triangle.{RowWithin, row_within}
use native.Mathlib.Omega.{arith}
use mathlib.Core.Path.{◌≡◌, refl}
use Prim.Native.Nat.{ℕ, ◌+◌, ◌*◌, ◌≤◌, ◌<◌}
use Rattle.point_sums.proofs.add_degrees.Goals as goal

-- the two rows of a turn are within the tables
within : (n nmax : ℕ) → n < nmax → nmax ≤ 2700 → RowWithin n nmax × RowWithin (n + 1) nmax
within n nmax h b = (row_within n nmax (omega arith) b, row_within (n + 1) nmax (omega arith) b)

pub loop-pair-init : goal.loop-pair-init
loop-pair-init c = (refl, refl, refl, refl, degrees_none refl)

pub add_degree-first-requires : goal.add_degree-first-requires
add_degree-first-requires c =
    let pre = c.requires in
    let args = c.args in
    let l = c.loop-pair in
    record { n_in_bounds_1 = omega (arith, within (2 * l.pair) args.nmax (omega arith) pre.point_room.top, pre.point_room, pre.nmax_in_bounds_1, l.invariant, l.invariant.4.rows.start); n_in_bounds_2 = omega (arith, within (2 * l.pair) args.nmax (omega arith) pre.point_room.top, pre.point_room, pre.nmax_in_bounds_1, l.invariant, l.invariant.4.rows.start); n_in_bounds_3 = omega (arith, within (2 * l.pair) args.nmax (omega arith) pre.point_room.top, pre.point_room, pre.nmax_in_bounds_1, l.invariant, l.invariant.4.rows.start); n_in_bounds_4 = omega (arith, within (2 * l.pair) args.nmax (omega arith) pre.point_room.top, pre.point_room, pre.nmax_in_bounds_1, l.invariant, l.invariant.4.rows.start); n_in_bounds_5 = omega (arith, within (2 * l.pair) args.nmax (omega arith) pre.point_room.top, pre.point_room, pre.nmax_in_bounds_1, l.invariant, l.invariant.4.rows.start); n_bound_1 = omega (arith, within (2 * l.pair) args.nmax (omega arith) pre.point_room.top, pre.point_room, pre.nmax_in_bounds_1, l.invariant, l.invariant.4.rows.start); n_bound_2 = omega (arith, within (2 * l.pair) args.nmax (omega arith) pre.point_room.top, pre.point_room, pre.nmax_in_bounds_1, l.invariant, l.invariant.4.rows.start); n_bound_3 = omega (arith, within (2 * l.pair) args.nmax (omega arith) pre.point_room.top, pre.point_room, pre.nmax_in_bounds_1, l.invariant, l.invariant.4.rows.start); n_bound_4 = omega (arith, within (2 * l.pair) args.nmax (omega arith) pre.point_room.top, pre.point_room, pre.nmax_in_bounds_1, l.invariant, l.invariant.4.rows.start); n_bound_5 = omega (arith, within (2 * l.pair) args.nmax (omega arith) pre.point_room.top, pre.point_room, pre.nmax_in_bounds_1, l.invariant, l.invariant.4.rows.start); n_in_bounds_2_1 = omega (arith, within (2 * l.pair) args.nmax (omega arith) pre.point_room.top, pre.point_room, pre.nmax_in_bounds_1, l.invariant, l.invariant.4.rows.start); n_in_bounds_2_2 = omega (arith, within (2 * l.pair) args.nmax (omega arith) pre.point_room.top, pre.point_room, pre.nmax_in_bounds_1, l.invariant, l.invariant.4.rows.start); n_in_bounds_2_3 = omega (arith, within (2 * l.pair) args.nmax (omega arith) pre.point_room.top, pre.point_room, pre.nmax_in_bounds_1, l.invariant, l.invariant.4.rows.start) }

pub overflow_add-at_odd : goal.overflow_add-at_odd
overflow_add-at_odd c =
    let pre = c.requires in
    let args = c.args in
    let l = c.loop-pair in
    omega (arith, within (2 * l.pair) args.nmax (omega arith) pre.point_room.top, l.invariant.4.rows.start)

pub overflow_add-at_odd-in-loop-pair : goal.overflow_add-at_odd-in-loop-pair
overflow_add-at_odd-in-loop-pair c =
    let pre = c.requires in
    let args = c.args in
    let l = c.loop-pair in
    omega (arith, within (2 * l.pair) args.nmax (omega arith) pre.point_room.top, l.invariant.4.rows.start)

pub add_degree-sums-requires : goal.add_degree-sums-requires
add_degree-sums-requires c =
    let pre = c.requires in
    let args = c.args in
    let add-degree = c.add_degree-first in
    let l = c.loop-pair in
    let f = add-degree.ensures in
    let rows = within (2 * l.pair) args.nmax (omega arith) pre.point_room.top in
    record { n_in_bounds_1 = omega (arith, rows, pre.point_room, pre.nmax_in_bounds_1, l.invariant, l.invariant.4.rows.start, f.filled.long, f.filled_2.long, f.filled_3.long); n_in_bounds_2 = omega (arith, rows, pre.point_room, pre.nmax_in_bounds_1, l.invariant, l.invariant.4.rows.start, f.filled.long, f.filled_2.long, f.filled_3.long); n_in_bounds_3 = omega (arith, rows, pre.point_room, pre.nmax_in_bounds_1, l.invariant, l.invariant.4.rows.start, f.filled.long, f.filled_2.long, f.filled_3.long); n_in_bounds_4 = omega (arith, rows, pre.point_room, pre.nmax_in_bounds_1, l.invariant, l.invariant.4.rows.start, f.filled.long, f.filled_2.long, f.filled_3.long); n_in_bounds_5 = omega (arith, rows, pre.point_room, pre.nmax_in_bounds_1, l.invariant, l.invariant.4.rows.start, f.filled.long, f.filled_2.long, f.filled_3.long); n_bound_1 = omega (arith, rows, pre.point_room, pre.nmax_in_bounds_1, l.invariant, l.invariant.4.rows.start, f.filled.long, f.filled_2.long, f.filled_3.long); n_bound_2 = omega (arith, rows, pre.point_room, pre.nmax_in_bounds_1, l.invariant, l.invariant.4.rows.start, f.filled.long, f.filled_2.long, f.filled_3.long); n_bound_3 = omega (arith, rows, pre.point_room, pre.nmax_in_bounds_1, l.invariant, l.invariant.4.rows.start, f.filled.long, f.filled_2.long, f.filled_3.long); n_bound_4 = omega (arith, rows, pre.point_room, pre.nmax_in_bounds_1, l.invariant, l.invariant.4.rows.start, f.filled.long, f.filled_2.long, f.filled_3.long); n_bound_5 = omega (arith, rows, pre.point_room, pre.nmax_in_bounds_1, l.invariant, l.invariant.4.rows.start, f.filled.long, f.filled_2.long, f.filled_3.long); n_in_bounds_2_1 = omega (arith, rows, pre.point_room, pre.nmax_in_bounds_1, l.invariant, l.invariant.4.rows.start, f.filled.long, f.filled_2.long, f.filled_3.long); n_in_bounds_2_2 = omega (arith, rows, pre.point_room, pre.nmax_in_bounds_1, l.invariant, l.invariant.4.rows.start, f.filled.long, f.filled_2.long, f.filled_3.long); n_in_bounds_2_3 = omega (arith, rows, pre.point_room, pre.nmax_in_bounds_1, l.invariant, l.invariant.4.rows.start, f.filled.long, f.filled_2.long, f.filled_3.long) }

pub overflow_add-at : goal.overflow_add-at
overflow_add-at c =
    let pre = c.requires in
    let args = c.args in
    let l = c.loop-pair in
    omega (arith, within (2 * l.pair) args.nmax (omega arith) pre.point_room.top, l.invariant.4.rows.start)

pub overflow_add-at-in-loop-pair : goal.overflow_add-at-in-loop-pair
overflow_add-at-in-loop-pair c =
    let pre = c.requires in
    let args = c.args in
    let l = c.loop-pair in
    omega (arith, within (2 * l.pair) args.nmax (omega arith) pre.point_room.top, l.invariant.4.rows.start)

pub loop-pair-preserved : goal.loop-pair-preserved
loop-pair-preserved c =
    let add-degree = c.add_degree-first in
    let add-degree2 = c.add_degree-sums in
    let l = c.loop-pair in
    let pre = c.requires in
    let room = pre.point_room in
    let tabled = pre.nmax_in_bounds_2 in
    let sectorals = pre.nmax_in_bounds_3 in
    let powers = pre.nmax_in_bounds_4 in
    let q = add-degree.ensures.filled in
    let p = add-degree.ensures.filled_2 in
    let d = add-degree.ensures.filled_3 in
    let x = add-degree.ensures.value in
    let q2 = add-degree2.ensures.filled in
    let p2 = add-degree2.ensures.filled_2 in
    let d2 = add-degree2.ensures.filled_3 in
    let x2 = add-degree2.ensures.value in
    let first = degrees_more l.invariant.4 tabled sectorals powers (omega (arith, room, l.invariant)) q p d x refl refl in (
      omega (arith, q.long, l.invariant.0),
      omega (arith, q2.long, l.invariant.1),
      omega (arith, p2.long, p.long, l.invariant.2),
      omega (arith, d2.long, d.long, l.invariant.3),
      degrees_more first tabled sectorals powers (omega (arith, room, l.invariant, q.long, p.long, d.long)) q2 p2 d2 x2 (omega arith) (omega arith),
    )

pub returns-then-nmax-eq1 : goal.returns-then-nmax-eq1
returns-then-nmax-eq1 c =
    let args = c.args in
    let l = c.loop-pair in
    let e : 2 * l.pair ≡ args.nmax + 1 = omega arith in
    degrees_to l.invariant.4 e

pub add_degree-requires : goal.add_degree-requires
add_degree-requires c =
    let pre = c.requires in
    let args = c.args in
    let l = c.loop-pair in
    let room = pre.point_room in
    let e : 2 * l.pair ≡ args.nmax = omega arith in
    let start = rw e at l.invariant.4.rows.start in
    let row = row_within args.nmax args.nmax (omega arith) room.top in
    record { n_in_bounds_1 = omega (arith, row, room, pre.nmax_in_bounds_1, l.invariant, start); n_in_bounds_2 = omega (arith, row, room, pre.nmax_in_bounds_1, l.invariant, start); n_in_bounds_3 = omega (arith, row, room, pre.nmax_in_bounds_1, l.invariant, start); n_in_bounds_4 = omega (arith, row, room, pre.nmax_in_bounds_1, l.invariant, start); n_in_bounds_5 = omega (arith, row, room, pre.nmax_in_bounds_1, l.invariant, start); n_bound_1 = omega (arith, row, room, pre.nmax_in_bounds_1, l.invariant, start); n_bound_2 = omega (arith, row, room, pre.nmax_in_bounds_1, l.invariant, start); n_bound_3 = omega (arith, row, room, pre.nmax_in_bounds_1, l.invariant, start); n_bound_4 = omega (arith, row, room, pre.nmax_in_bounds_1, l.invariant, start); n_bound_5 = omega (arith, row, room, pre.nmax_in_bounds_1, l.invariant, start); n_in_bounds_2_1 = omega (arith, row, room, pre.nmax_in_bounds_1, l.invariant, start); n_in_bounds_2_2 = omega (arith, row, room, pre.nmax_in_bounds_1, l.invariant, start); n_in_bounds_2_3 = omega (arith, row, room, pre.nmax_in_bounds_1, l.invariant, start) }

pub returns : goal.returns
returns c =
    let args = c.args in
    let add-degree3 = c.add_degree in
    let l = c.loop-pair in
    let pre = c.requires in
    let room = pre.point_room in
    let q = add-degree3.ensures.filled in
    let p = add-degree3.ensures.filled_2 in
    let d = add-degree3.ensures.filled_3 in
    let x = add-degree3.ensures.value in
    let e : 2 * l.pair ≡ args.nmax = omega arith in
    let below = rw e at l.invariant.4 in
    degrees_to
    (degrees_more below pre.nmax_in_bounds_2 pre.nmax_in_bounds_3 pre.nmax_in_bounds_4 (omega (arith, room, e, l.invariant)) q p d x refl refl)
    refl
