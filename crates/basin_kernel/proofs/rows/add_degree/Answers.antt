-- `rows::add_degree` meets its contract: what its three calls promise. Assumes nothing.
use native.Mathlib.Omega.{arith}
use Rattle.basin_kernel.proofs.rows.add_degree.Goals as goal

pub add_row-requires : goal.add_row-requires
add_row-requires c =
    let pre = c.requires in
    let long = c.next_row.ensures.long in
    record { fact_1 = omega arith; fact_2 = omega arith; fact_3 = omega arith; fact_4 = omega arith; fact_5 = omega arith }

pub add_row-requires-2 : goal.add_row-requires-2
add_row-requires-2 c =
    let pre = c.requires in
    let long = c.next_row.ensures.long in
    record { fact_1 = omega arith; fact_2 = omega arith; fact_3 = omega arith; fact_4 = omega arith; fact_5 = omega arith }

pub returns : goal.returns
returns c =
    record { filled = c.next_row.ensures; filled_2 = c.add_row.ensures; filled_3 = c.add_row-2.ensures }
