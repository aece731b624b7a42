-- `rows::add_row` meets its contract: the sums over the longitudes, then the degrees by them. Assumes nothing.
use Rattle.analysis.specs.Rows.{added_by_lem}
use Rattle.fourier_analysis.specs.Longitudes.{cosines_from, sines_from, first_of, second_of, first_is, second_is}
use Rattle.recursion.specs.Recursion.{p_cell}
use Rattle.storage.specs.Elements.{from}
use lib.Ieee.{nan}
use Rattle.storage.specs.Filled.{filled_self}
use native.Mathlib.Omega.{arith}
use Rattle.analysis.proofs.rows.add_row.Goals as goal

pub order_sums-requires : goal.order_sums-requires
order_sums-requires c =
    let q = c.requires in
    record { nmax_bound_1 = q.row_room.top; nmax_bound_2 = q.filled_2; nmax_bound_3 = q.row_room.of_sums; longitudes_in_bounds_1 = q.filled_3; longitudes_in_bounds_2 = q.filled_4 }

pub rescales-requires : goal.rescales-requires
rescales-requires c =
    c.requires.row_room.of_r

pub add_degrees-requires : goal.add_degrees-requires
add_degrees-requires c =
    let q = c.requires in
    let k = q.row_room in
    let x = c.order_sums.ensures in
    let r = c.rescales.ensures in record { filled_1 = q.filled_1; filled_2 = filled_self r; nmax_bound_1 = k.top; nmax_bound_2 = k.of_a; nmax_bound_3 = k.of_b; nmax_bound_4 = k.of_c; nmax_bound_5 = k.of_s; nmax_in_bounds_1 = k.of_sectorals; nmax_in_bounds_2 = omega (arith, k.of_r, r.long); nmax_in_bounds_3 = omega (arith, k.of_sums, x.long); nmax_in_bounds_4 = k.of_even; nmax_in_bounds_5 = k.of_odd }

pub returns : goal.returns
returns c =
    let a = c.args in
    let k = c.requires.row_room in
    let P = p_cell (from 0 a.a.now nan) (from 0 a.b.now nan) a.latitude.t a.latitude.u in
    let X = cosines_from a.values.now a.trig.now a.at a.longitudes in
    let Y = sines_from a.values.now a.trig.now a.at a.longitudes in
    let x = c.order_sums.ensures in
    let sums = c.order_sums.new.sums in
    let added = c.add_degrees.ensures.filled_2 in let adds = c.add_degrees.ensures.filled_3 in record {
      filled_2 = added_by_lem a.weight P (first_of sums) X a.nmax
          (first_is a.values.now a.trig.now a.at a.longitudes x (omega (arith, k.of_sums))) added;
      filled_3 = added_by_lem a.weight P (second_of sums) Y a.nmax
          (second_is a.values.now a.trig.now a.at a.longitudes x (omega (arith, k.of_sums))) adds;
    }
