-- `add_degree` meets its contract: what its four calls promise. Assumes nothing.
use native.Mathlib.Omega.{arith}
use Rattle.lumped_coefficients.proofs.add_degree.Goals as goal

pub scale_row-requires : goal.scale_row-requires
scale_row-requires c =
    let long = c.next_row.ensures.long in
    let pre = c.requires in
    record { fact_1 = omega arith; fact_2 = omega arith; fact_3 = omega arith }

pub add_row-requires : goal.add_row-requires
add_row-requires c =
    let long = c.scale_row.ensures.long in
    let pre = c.requires in
    record { fact_1 = omega arith; fact_2 = omega arith; fact_3 = omega arith }

pub add_row-requires-2 : goal.add_row-requires-2
add_row-requires-2 c =
    let long = c.scale_row.ensures.long in
    let pre = c.requires in
    record { fact_1 = omega arith; fact_2 = omega arith; fact_3 = omega arith }

pub returns : goal.returns
returns c =
    record { filled = c.next_row.ensures; filled_2 = c.scale_row.ensures; filled_3 = c.add_row.ensures; filled_4 = c.add_row-2.ensures }
