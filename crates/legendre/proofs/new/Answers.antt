-- `new` meets its contract: it is refused by its checks, or both tables are written. Assumes nothing.
use Rattle.storage.specs.Checks.{room_passed}
use Rattle.storage.specs.Triangle.{row_start_zero, rows_from_zero}
use Rattle.recursion.specs.Recursion.{a_cell, b_cell}
use Rattle.legendre.specs.Laws.{new_promise}
use native.Mathlib.Omega.{arith}
use mathlib.Core.Path.{sym, ◌∙◌}
use Rattle.legendre.proofs.new.Goals as goal

pub a_table-requires : goal.a_table-requires
a_table-requires c =
    let room = room_passed _ _ _ (sym c.in_ok-room_check.was ∙ c.room_check.ensures) in
    omega (arith, row_start_zero)

pub b_table-requires : goal.b_table-requires
b_table-requires c =
    let room = room_passed _ _ _ (sym c.in_ok-room_check.was ∙ c.room_check.ensures) in
    omega (arith, row_start_zero)

pub returns : goal.returns
returns c =
    let all = new_promise (
    record {
      answers =
          sym c.in_ok-room_check.was
          ∙ c.room_check.ensures;
      leaves_a = (rows_from_zero a_cell _ c.a_table.ensures).is;
      leaves_b = (rows_from_zero b_cell _ c.b_table.ensures).is;
    }) in
    record { value = all.0; a_after = all.1.0; b_after = all.1.1 }
