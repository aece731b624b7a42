-- `workspace::sum_rows` meets its contract: the rows by the tables that are filled before them. Assumes nothing.
use Rattle.analysis.specs.Checks.{points_are}
use Rattle.analysis.specs.Promise.{summed}
use Rattle.recursion.specs.Tables.{second_table}
use Rattle.storage.specs.Answers.{size_is}
use Rattle.storage.specs.Triangle.{table_size_most}
use Rattle.storage.specs.Filled.{filled_self, filled_to}
use native.Mathlib.Omega.{arith}
use mathlib.Core.Path.{refl, ◌∙◌}
use Prim.Native.Nat.{◌-◌}
use lib.ListN.{length, take, drop}
use Rattle.analysis.proofs.workspace.sum_rows.Goals as goal

pub overflow_add-longitudes : goal.overflow_add-longitudes
overflow_add-longitudes c = omega (arith, c.requires.accepted.top)

pub overflow_add-longitudes-2 : goal.overflow_add-longitudes-2
overflow_add-longitudes-2 c = omega (arith, c.requires.accepted.top)

pub tables-requires : goal.tables-requires
tables-requires c =
    let k = c.requires.accepted in
    let size = c.table_size-total.ensures in
    let z = size ∙ size_is c.args.nmax k.top in
    (k.top, (z, omega (arith, z, k.room_work)))

pub sectorals-requires : goal.sectorals-requires
sectorals-requires c =
    let q = c.requires in record { fact_1 = q.accepted.top; fact_2 = q.nmax_in_bounds_1 }

pub clear-requires : goal.clear-requires
clear-requires c =
    let k = c.requires.accepted in
    let size = c.table_size-total.ensures in
    let z = size ∙ size_is c.args.nmax k.top in
    omega (arith, z, k.room_c)

pub clear-requires-2 : goal.clear-requires-2
clear-requires-2 c =
    let k = c.requires.accepted in
    let size = c.table_size-total.ensures in
    let z = size ∙ size_is c.args.nmax k.top in
    omega (arith, z, k.room_s)

pub offset_bounds-a-total : goal.offset_bounds-a-total
offset_bounds-a-total c =
    let k = c.requires.accepted in
    let size = c.table_size-total.ensures in
    let z = size ∙ size_is c.args.nmax k.top in
    omega (arith, z, table_size_most c.args.nmax k.top)

pub slice_bounds-b-count : goal.slice_bounds-b-count
slice_bounds-b-count c =
    let k = c.requires.accepted in
    let size = c.table_size-total.ensures in
    let z = size ∙ size_is c.args.nmax k.top in
    omega (arith, z, k.room_work, c.tables.auto.work)

pub slice_bounds-b-start : goal.slice_bounds-b-start
slice_bounds-b-start c =
    let k = c.requires.accepted in
    let size = c.table_size-total.ensures in
    let z = size ∙ size_is c.args.nmax k.top in
    omega (arith, z, k.room_work, c.tables.auto.work)

pub add_rows-requires : goal.add_rows-requires
add_rows-requires c =
    let q = c.requires in
    let k = q.accepted in
    let n = c.args.nmax in
    let z = c.table_size-total.ensures ∙ size_is n k.top in
    let points = points_are n in
    let long = c.tables.auto.work in
    let d = c.sectorals.ensures in
    let clear-c = c.clear.ensures in
    let clear-s = c.clear-2.ensures in record {
      row_room = record {
        top = k.top;
        of_a = omega (arith, k.room_work, long);
        of_b = omega (arith, c.b-1.given, z, k.room_work, long);
        of_sectorals = omega (arith, q.nmax_in_bounds_1, d.long);
        of_r = q.nmax_in_bounds_2;
        of_even = q.nmax_in_bounds_3;
        of_odd = q.nmax_in_bounds_4;
        of_sums = q.nmax_in_bounds_5;
        of_c = omega (arith, k.room_c, clear-c.long);
        of_s = omega (arith, k.room_s, clear-s.long);
      };
      filled_1 = filled_self d;
      filled_2 = filled_to (filled_self clear-c) z;
      filled_3 = filled_to (filled_self clear-s) z;
      longitudes_value_1 = refl;
      longitudes_value_2 = omega (arith, k.points, points);
      longitudes_value_3 = omega (arith, k.orders, points);
      longitudes_value_4 = omega (arith, k.of_weights);
      longitudes_value_5 = omega (arith, k.pairs);
    }

pub returns : goal.returns
returns c =
    let a = c.args in
    let k = c.requires.accepted in
    let N = a.nmax in
    let total = c.table_size-total.result in
    let z = c.table_size-total.ensures ∙ size_is N k.top in
    let tables = c.tables in
    let w = tables.new.work in
    let long = tables.auto.work in
    let room = length w - total in
    let zero-c = filled_to c.clear.ensures z in
    let zero-s = filled_to c.clear-2.ensures z in
    let rc = c.add_rows.ensures.filled_2 in let rs = c.add_rows.ensures.filled_3 in
    summed a.values.now a.weights.now a.latitudes.now a.trig.now N (take room (drop total w)) tables.ensures k.room_work
    (λ i h. second_table N total room w z i (omega (arith, h, z, k.room_work, long))) zero-c zero-s rc rs
