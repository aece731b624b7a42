-- `workspace::grid_in` meets its contract: the rows by the tables and factors that are filled before them. Assumes nothing.
use Rattle.synthesis.specs.Promise.{made}
use Rattle.recursion.specs.Tables.{second_table}
use Rattle.functional.specs.Factor.{factor_of}
use Rattle.storage.specs.Filled.{filled_self, filled_in}
use native.Mathlib.Nat.{zero-add}
use lib.ListN.{take, drop}
use lib.Ieee.{nan}
use native.Mathlib.Omega.{arith}
use mathlib.Core.Path.{sym}
use Prim.Native.Nat.{◌-◌}
use lib.ListN.{length}
use Rattle.synthesis.proofs.workspace.grid_in.Goals as goal

pub tables-requires : goal.tables-requires
tables-requires c =
    let q = c.requires in
    let k = q.accepted in
    (k.tables.top, (k.tables.c, omega (arith, k.tables.c, k.room_work)))

pub factors-requires : goal.factors-requires
factors-requires c =
    let q = c.requires in record { fact_1 = q.accepted.tables.top; fact_2 = q.nmax_in_bounds_1 }

pub sectorals-requires : goal.sectorals-requires
sectorals-requires c =
    let q = c.requires in record { fact_1 = q.accepted.tables.top; fact_2 = q.nmax_in_bounds_2 }

pub offset_bounds-a-total : goal.offset_bounds-a-total
offset_bounds-a-total c =
    let q = c.requires in
    let k = q.accepted in
    omega (arith, k.tables.c, k.tables.small)

pub slice_bounds-b-count : goal.slice_bounds-b-count
slice_bounds-b-count c =
    let q = c.requires in
    let k = q.accepted in
    let long = c.tables.auto.work in
    omega (arith, k.tables.c, k.room_work, long)

pub grid_rows-requires : goal.grid_rows-requires
grid_rows-requires c =
    let q = c.requires in
    let k = q.accepted in
    let long = c.tables.auto.work in
    let f = c.factors.ensures in
    let d = c.sectorals.ensures in record {
      row_room = record {
        top = k.tables.top;
        of_a = omega (arith, k.room_work, long);
        of_b = omega (arith, c.b-1.given, k.tables.c, k.room_work, long);
        of_c = omega (arith, k.tables.c);
        of_s = omega (arith, k.tables.s);
        of_factors = omega (arith, q.nmax_in_bounds_1, f.long);
        of_sectorals = omega (arith, q.nmax_in_bounds_2, d.long);
        of_r = q.nmax_in_bounds_3;
        of_even = q.nmax_in_bounds_4;
        of_odd = q.nmax_in_bounds_2_1;
        of_p = q.nmax_in_bounds_2_2;
        of_x = q.nmax_in_bounds_2_3;
        of_y = q.nmax_in_bounds_2_4;
      };
      filled_1 = filled_self d;
      filled_2 = omega (arith, k.pairs);
      filled_3 = omega (arith, k.orders);
      filled_4 = k.room_out;
      rows_bound_1 = k.few_rows;
      rows_bound_2 = k.few_longitudes;
    }

pub returns : goal.returns
returns c =
    let q = c.requires in
    let k = q.accepted in
    let a = c.args in
    let N = a.head.nmax in
    let g = factor_of a.functional a.love.now a.head.gm a.head.radius a.r in
    let total = length a.c.now in
    let w = c.tables.new.work in
    let f = c.factors.new.out in
    let long = c.tables.auto.work in
    let room = length w - total in
    made g a.latitudes.now a.c.now a.s.now a.trig.now N a.rows a.longitudes (take room (drop total w)) f
    c.tables.ensures
    k.room_work (λ i h. second_table N total room w k.tables.c i (omega (arith, h, k.tables.c, k.room_work, long)))
    (λ i h. filled_in {j = i} nan c.factors.ensures
    (omega (arith, h)) (sym (zero-add i)) (omega (arith, h, q.nmax_in_bounds_1))) c.grid_rows.ensures
