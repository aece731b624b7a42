-- `model_write` meets its contract. Assumes nothing.
use Rattle.model_file.specs.Dates.{size_within}
use Rattle.std.specs.Prelude.{pos}
use mathlib.Core.Path.{◌∙◌}
use Rattle.coefficients.specs.Model.{date_is}
use Rattle.lengths.specs.Lengths.{write_told}
use Rattle.lengths.specs.Told.{too_large, small_enough, size_refused, told_past, promised}
use native.Mathlib.Omega.{arith}
use Rattle.lengths.proofs.model_write.Goals as goal

pub returns-then-nmax-gt-MAX_DEGREE : goal.returns-then-nmax-gt-MAX_DEGREE
returns-then-nmax-gt-MAX_DEGREE c =
    let all = promised (size_refused (too_large (omega arith))) in
    record { value = all.0; lengths_after = all.1 }

pub overflow_add-told : goal.overflow_add-told
overflow_add-told c = omega (arith, size_within c.then_some.result c.head_size-start.ensures)

pub overflow_add-told-2 : goal.overflow_add-told-2
overflow_add-told-2 c = omega (arith, size_within c.then_some.result c.head_size-start.ensures)

pub returns : goal.returns
returns c =
    let a = c.args in
    let entries = c.entries-size in
    let head_size_lem = c.head_size-start in
    let tell = c.tell in
    let all = promised
    (told_past (small_enough (omega arith)) (write_told a.nmax a.dated entries.ensures.is (c.then_some.ensures ∙ date_is a.dated (pos 0)) head_size_lem.ensures) tell.ensures) in
    record { value = all.0; lengths_after = all.1 }
