-- `grow` meets its contract: it is refused by its checks, or has nothing to add, or both tables get their rows. Assumes nothing.
use Rattle.storage.specs.Answers.{size_is}
use Rattle.storage.specs.Checks.{room_passed}
use Rattle.recursion.specs.Recursion.{a_cell, b_cell}
use Rattle.legendre.specs.Grown.{grown_rows, grown_none}
use Rattle.legendre.specs.Laws.{grow_promise}
use native.Mathlib.Omega.{arith}
use mathlib.Core.Path.{refl, ◌∙◌}
use Rattle.refusal.proofs.Exits.{same_refusal}
use Rattle.legendre.proofs.grow.Goals as goal

pub returns-then-from-nmax : goal.returns-then-from-nmax
returns-then-from-nmax c =
    let ok = c.in_ok-room_check.ensures in
    let all = grow_promise (record { answers = ok; leaves_a = grown_none a_cell _ _ _ (omega arith); leaves_b = grown_none b_cell _ _ _ (omega arith) }) in
    record { value = all.0; a_after = all.1.0; b_after = all.1.1 }

pub a_table-requires : goal.a_table-requires
a_table-requires c =
    let a = c.args in
    let room = room_passed _ _ _ c.in_ok-room_check.ensures in
    let start = c.table_size-start.ensures ∙ size_is a.from (omega arith) in
    omega arith

pub b_table-requires : goal.b_table-requires
b_table-requires c =
    let a = c.args in
    let room = room_passed _ _ _ c.in_ok-room_check.ensures in
    let start = c.table_size-start.ensures ∙ size_is a.from (omega arith) in
    omega arith

pub returns-in_err-room_check : goal.returns-in_err-room_check
returns-in_err-room_check c =
    let a = c.args in
    let all = grow_promise {n = a.from} (record { answers = c.in_err-room_check.ensures; leaves_a = refl; leaves_b = refl }) in
    rw (same_refusal c.from_residual.ensures.1 refl) (record { value = all.0; a_after = all.1.0; b_after = all.1.1 })

pub returns : goal.returns
returns c =
    let a = c.args in
    let ok = c.in_ok-room_check.ensures in
    let room = room_passed _ _ _ ok in
    let start = c.table_size-start.ensures ∙ size_is a.from (omega arith) in
    let all = grow_promise (
    record {
      answers = ok;
      leaves_a = grown_rows a_cell _ _ start c.a_table.ensures;
      leaves_b = grown_rows b_cell _ _ start c.b_table.ensures;
    }) in
    record { value = all.0; a_after = all.1.0; b_after = all.1.1 }
