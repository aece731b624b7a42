-- `rows::grid_row` meets its contract: the sums of the orders, then the values. Assumes nothing.
use Rattle.synthesis.specs.Rows.{row_values}
use Rattle.storage.specs.Elements.{from}
use lib.Ieee.{nan}
use native.Mathlib.Omega.{arith}
use Rattle.synthesis.proofs.rows.grid_row.Goals as goal

pub order_sums-requires : goal.order_sums-requires
order_sums-requires c =
    let q = c.requires in
    let k = q.row_room in record { nmax_bound_1 = k.top; nmax_bound_2 = k.of_a; nmax_bound_3 = k.of_b; nmax_bound_4 = k.of_c; nmax_bound_5 = k.of_s; nmax_in_bounds_1 = k.of_factors; nmax_in_bounds_2 = k.of_sectorals; nmax_in_bounds_3 = k.of_r; nmax_in_bounds_4 = k.of_even; nmax_in_bounds_5 = k.of_odd; nmax_in_bounds_2_1 = k.of_p; nmax_in_bounds_2_2 = k.of_x; nmax_in_bounds_2_3 = k.of_y; filled = q.filled_1 }

pub points-requires : goal.points-requires
points-requires c =
    let q = c.requires in
    let e = c.order_sums.ensures in
    record { fact_1 = q.row_room.top; fact_2 = omega (arith, q.row_room.of_x, e.filled_2.long); fact_3 = omega (arith, q.row_room.of_y, e.filled_3.long); fact_4 = q.filled_2; fact_5 = q.filled_3 }

pub returns : goal.returns
returns c =
    let k = c.requires.row_room in
    let a = c.args in
    let e = c.order_sums.ensures in
    row_values (from 0 a.a.now nan) (from 0 a.b.now nan) (from 0 a.factors.now nan) a.latitude.t a.latitude.u
    a.c.now a.s.now a.trig.now a.nmax e.filled_2 e.filled_3 k.of_x k.of_y c.points.ensures
