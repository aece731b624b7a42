-- `order_sums` meets its contract: the powers and the cleared sums are what the degrees ask for. Assumes nothing.
use native.Mathlib.Omega.{arith}
use Rattle.storage.specs.Filled.{filled_self, filled_again}
use Rattle.lumped_coefficients.proofs.order_sums.Goals as goal

pub clear-requires-2 : goal.clear-requires-2
clear-requires-2 c =
    let pre = c.requires in
    omega arith

pub add_degrees-requires : goal.add_degrees-requires
add_degrees-requires c =
    let pre = c.requires in
    let long = c.rescales.ensures.long in
    let long-x = c.clear.ensures.long in
    let long-y = c.clear-2.ensures.long in
    record { filled_1 = pre.filled; filled_2 = filled_self c.rescales.ensures; filled_3 = filled_self c.clear.ensures; filled_4 = filled_self c.clear-2.ensures; nmax_bound_1 = omega arith; nmax_bound_2 = omega arith; nmax_bound_3 = omega arith; nmax_bound_4 = omega arith; nmax_bound_5 = omega arith; nmax_in_bounds_1 = omega arith; nmax_in_bounds_2 = omega arith; nmax_in_bounds_3 = omega arith; nmax_in_bounds_4 = omega arith; nmax_in_bounds_5 = omega arith; nmax_in_bounds_2_1 = omega arith; nmax_in_bounds_2_2 = omega arith; nmax_in_bounds_2_3 = omega arith }

pub returns : goal.returns
returns c =
    let x = c.add_degrees.ensures.filled_2 in let y = c.add_degrees.ensures.filled_3 in
    record { filled_2 = filled_again c.clear.ensures x (omega arith); filled_3 = filled_again c.clear-2.ensures y (omega arith) }
