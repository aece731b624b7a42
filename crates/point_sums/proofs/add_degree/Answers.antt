-- `sums::add_degree` meets its contract: what its calls promise, one after the other. Assumes nothing.
use Rattle.point_sums.specs.Sums.{cosine_from, sine_from, degree_added}
use Rattle.storage.specs.Elements.{from}
use lib.Ieee.{nan}
use native.Mathlib.Omega.{arith}
use Rattle.point_sums.proofs.add_degree.Goals as goal

pub scale_row-requires : goal.scale_row-requires
scale_row-requires c =
    let pre = c.requires in
    let next_row = c.next_row in
    record { fact_1 = omega (arith, pre, next_row.ensures.long); fact_2 = omega (arith, pre, next_row.ensures.long); fact_3 = omega (arith, pre, next_row.ensures.long) }

pub derive_row-requires : goal.derive_row-requires
derive_row-requires c =
    let pre = c.requires in
    let scale-row = c.scale_row in
    record { fact_1 = omega (arith, pre, scale-row.ensures.long); fact_2 = omega (arith, pre, scale-row.ensures.long); fact_3 = omega (arith, pre, scale-row.ensures.long) }

pub row_sums-row-requires : goal.row_sums-row-requires
row_sums-row-requires c =
    let pre = c.requires in
    let scale-row = c.scale_row in
    let derive-row = c.derive_row in
    record { n_bound_1 = omega (arith, pre, scale-row.ensures.long, derive-row.ensures.long); n_bound_2 = omega (arith, pre, scale-row.ensures.long, derive-row.ensures.long); n_bound_3 = omega (arith, pre, scale-row.ensures.long, derive-row.ensures.long); n_in_bounds_1 = omega (arith, pre, scale-row.ensures.long, derive-row.ensures.long); n_in_bounds_2 = omega (arith, pre, scale-row.ensures.long, derive-row.ensures.long); n_in_bounds_3 = omega (arith, pre, scale-row.ensures.long, derive-row.ensures.long) }

pub add_row-requires : goal.add_row-requires
add_row-requires c =
    let pre = c.requires in
    omega (arith, pre)

pub returns : goal.returns
returns c =
    let next_row = c.next_row in
    let scale-row = c.scale_row in
    let derive-row = c.derive_row in
    let a = c.args in
    let even = c.row_sums-row.ensures.even_value in let north = c.row_sums-row.ensures.north_value in let east = c.row_sums-row.ensures.east_value in
    let p = from 0 scale-row.new.p nan in
    let d = from 0 derive-row.new.dst nan in
    let sums =
    degree_added a.n a.q p d (from a.at a.c.now nan) (from a.at a.s.now nan) (cosine_from a.k a.trig.now)
    (sine_from a.k a.trig.now) a.sums c.add_row.ensures even north east in
    record { filled = next_row.ensures; filled_2 = scale-row.ensures; filled_3 = derive-row.ensures; value = sums }
