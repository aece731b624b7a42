-- `rows::table` meets its contract: the powers as they stand are what the rows ask for. Assumes nothing.
use Rattle.storage.specs.Filled.{filled_self}
use borrow.Author.Rules.{rules}
use native.Mathlib.Omega.{arith}
use Rattle.legendre.proofs.rows.table.Goals as goal

pub all_rows-requires : goal.all_rows-requires
all_rows-requires c =
    let powers = filled_self c.rescales.ensures in
    record { nmax_bound_1 = omega arith; nmax_bound_2 = omega arith; nmax_bound_3 = omega arith; nmax_bound_4 = omega arith; nmax_in_bounds_1 = omega arith; nmax_in_bounds_2 = omega arith; nmax_in_bounds_3 = omega arith; filled = powers }
