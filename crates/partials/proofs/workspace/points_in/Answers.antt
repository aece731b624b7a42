-- `workspace::points_in` meets its contract: the points by the tables that are filled before them. Assumes nothing.
use Rattle.point_lists.specs.Tables.{weights_long, weights_rest, weights_first, tabled}
use Rattle.storage.specs.Filled.{filled_self}
use Rattle.local.specs.Point.{work_size}
use native.Mathlib.Omega.{arith}
use Prim.Native.Nat.{◌-◌}
use lib.ListN.{length, take, drop}
use Rattle.partials.proofs.workspace.points_in.Goals as goal

pub tables-requires : goal.tables-requires
tables-requires c =
    let k = c.requires.accepted in
    record { fact_1 = k.tables.top; fact_2 = k.tables.c; fact_3 = c.requires.nmax_in_bounds_1; fact_4 = omega (arith, k.tables.c, k.room_work) }

pub sectorals-requires : goal.sectorals-requires
sectorals-requires c =
    let pre = c.requires in
    record { fact_1 = pre.accepted.tables.top; fact_2 = pre.nmax_in_bounds_2 }

pub offset_bounds-a-total : goal.offset_bounds-a-total
offset_bounds-a-total c =
    let pre = c.requires in
    omega (arith, pre.accepted.tables.c, pre.accepted.tables.small)

pub slice_bounds-b-count : goal.slice_bounds-b-count
slice_bounds-b-count c =
    let pre = c.requires in
    let long = weights_long c.args.head.nmax c.args.work.now c.tables.ensures in
    omega (arith, pre.accepted.tables.c, pre.accepted.room_work, long)

pub offset_bounds-b-total : goal.offset_bounds-b-total
offset_bounds-b-total c =
    let pre = c.requires in
    omega (arith, pre.accepted.tables.c, pre.accepted.tables.small)

pub slice_bounds-w-count : goal.slice_bounds-w-count
slice_bounds-w-count c =
    let pre = c.requires in
    let long = weights_long c.args.head.nmax c.args.work.now c.tables.ensures in
    omega (arith, pre.accepted.tables.c, pre.accepted.room_work, long)

pub all_points-requires : goal.all_points-requires
all_points-requires c =
    let tables = c.tables in
    let sectorals = c.sectorals in
    let a = c.args in
    let q = c.requires in
    let k = q.accepted in
    let long = weights_long a.head.nmax a.work.now tables.ensures in
    let total = length a.c.now in
    let work = tables.new.work in
    let room = length work - total in
    let rest = length (take room (drop total work)) - total in
    let d = sectorals.ensures in record {
      point_room = record {
        top = k.tables.top;
        of_a = omega (arith, k.room_work, long);
        of_b = omega (arith, k.tables.c, k.room_work, long);
        of_w = omega (arith, k.tables.c, k.room_work, long);
        of_c = omega (arith, k.tables.c);
        of_s = omega (arith, k.tables.s);
        of_sectorals = omega (arith, q.nmax_in_bounds_2, d.long);
        of_r = q.nmax_in_bounds_3;
        of_even = q.nmax_in_bounds_4;
        of_odd = q.nmax_in_bounds_2_1;
        of_p = q.nmax_in_bounds_2_2;
        of_d = q.nmax_in_bounds_2_3;
      };
      points_bound_1 = k.few;
      points_bound_2 = omega (arith, k.each);
      points_bound_3 = omega (arith, k.pairs);
      points_bound_4 = omega (arith, k.orders);
      points_bound_5 = omega (arith, k.room_out);
      tabled_1 = tabled (weights_first a.head.nmax a.work.now tables.ensures (omega (arith, k.room_work))) total room rest k.tables.c
          (omega (arith, k.tables.c, k.room_work, long)) (omega (arith, k.tables.c, k.room_work, long));
      tabled_2 = filled_self d;
    }

pub returns : goal.returns
returns c =
    let tables = c.tables in
    let all-points = c.all_points in
    let a = c.args in
    let N = a.head.nmax in
    record {
      values = all-points.ensures;
      rest = weights_rest N a.work.now tables.ensures (work_size N) (omega arith);
      long = weights_long N a.work.now tables.ensures;
    }
