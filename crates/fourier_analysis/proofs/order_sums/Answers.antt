-- `order_sums` meets its contract: the orders four at a time and then the rest. Assumes nothing.
use Rattle.storage.specs.Filled.{filled_self, filled_again}
use native.Mathlib.Nat.{mul-le-mul_right}
use native.Mathlib.Omega.{arith}
use mathlib.Core.Path.{refl, ◌∙◌}
use borrow.Author.Rules.{rules}
use Rattle.fourier_analysis.proofs.order_sums.Goals as goal

pub by_fours-first-requires : goal.by_fours-first-requires
by_fours-first-requires c = record { nmax_bound_1 = omega arith; nmax_bound_2 = omega arith; nmax_bound_3 = omega arith; stride_value_1 = refl; stride_value_2 = omega arith }

pub one_by_one-requires : goal.one_by_one-requires
one_by_one-requires c =
    let few = c.by_fours-first.ensures.fact_1 in
    let x = c.by_fours-first.ensures.fact_2 in
    let long = x.long in
    record { nmax_bound_1 = omega arith; nmax_bound_2 = omega arith; nmax_bound_3 = omega arith; stride_value_1 = refl; stride_value_2 = omega arith; stride_value_3 = few; filled = filled_self x }

pub returns : goal.returns
returns c =
    let few = c.by_fours-first.ensures.fact_1 in
    let x = c.by_fours-first.ensures.fact_2 in
    filled_again x c.one_by_one.ensures (mul-le-mul_right 2 few)
