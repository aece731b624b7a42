-- `tables_by` meets its contract: the second table is lent its part. Assumes nothing.
use Rattle.recursion.specs.Tables.{tables_filled}
use Rattle.storage.specs.Filled.{filled_part}
use Rattle.storage.specs.Triangle.{row_start_zero, rows_from_zero}
use Rattle.recursion.specs.Recursion.{a_cell, b_cell}
use native.Mathlib.Omega.{arith}
use Prim.Native.Nat.{◌-◌}
use lib.ListN.{length}
use borrow.Author.Rules.{rules}
use Rattle.recursion.proofs.tables_by.Goals as goal

pub offset_bounds-work-total : goal.offset_bounds-work-total
offset_bounds-work-total c = let long = c.a_rows.ensures.long in omega arith

pub slice_bounds-b_rows-count : goal.slice_bounds-b_rows-count
slice_bounds-b_rows-count c = let long = c.a_rows.ensures.long in omega arith

pub b_rows-requires : goal.b_rows-requires
b_rows-requires c = let long = c.a_rows.ensures.long in record { fact_1 = omega (arith, row_start_zero); fact_2 = omega (arith, row_start_zero); fact_3 = omega (arith, row_start_zero); fact_4 = omega (arith, row_start_zero); fact_5 = omega (arith, row_start_zero) }

pub returns : goal.returns
returns c =
    let a = c.args in
    let long = c.a_rows.ensures.long in
    let l = c.a_rows.new.a in
    tables_filled a.nmax a.total (omega arith) (rows_from_zero a_cell a.nmax c.a_rows.ensures)
    (filled_part a.total (length l - a.total) l (rows_from_zero b_cell a.nmax c.b_rows.ensures) (omega arith))

pub a_rows-requires : goal.a_rows-requires
a_rows-requires c = record { fact_1 = omega (arith, row_start_zero); fact_2 = omega (arith, row_start_zero); fact_3 = omega (arith, row_start_zero); fact_4 = omega (arith, row_start_zero); fact_5 = omega (arith, row_start_zero) }
