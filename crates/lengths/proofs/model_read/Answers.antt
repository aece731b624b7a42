-- `model_read` meets its contract: the degree of an accepted head is a table's. Assumes nothing.
use Rattle.std.specs.Prelude.{Result}
use Rattle.lengths.specs.Lengths.{read_lengths, file_told}
use Rattle.lengths.specs.Told.{size_refused, told_past, promised}
use Rattle.model_file.specs.Dates.{size_within}
use Rattle.model_file.specs.Head.{head_small}
use Rattle.model_file.specs.declared.FileHead.{FileHead}
use native.Mathlib.Omega.{arith}
use mathlib.Core.Path.{sym, ap, ◌∙◌}
use Rattle.lengths.proofs.model_read.Goals as goal
use Rattle.refusal.proofs.Exits.{same_refusal}
use Rattle.refusal.specs.declared.Refusal.{Refusal}
use Rattle.refusal.specs.Numbers.{outcome}

pub entries-size-requires : goal.entries-size-requires
entries-size-requires c = head_small _ _ (sym c.head.ensures ∙ c.in_ok-h.was)

pub overflow_add-told : goal.overflow_add-told
overflow_add-told c = omega (arith, size_within c.in_ok-h.h.date c.head_size-start.ensures)

pub overflow_add-told-2 : goal.overflow_add-told-2
overflow_add-told-2 c = omega (arith, size_within c.in_ok-h.h.date c.head_size-start.ensures)

pub returns-in_err-h : goal.returns-in_err-h
returns-in_err-h c =
    let all = promised (size_refused (ap (λ (r : Result FileHead Refusal). outcome r) c.in_err-h.ensures)) in
    record { value = same_refusal c.from_residual.ensures.1 all.0; lengths_after = all.1 }

pub returns : goal.returns
returns c =
    let head = c.head in
    let entries = c.entries-size in
    let head_size_lem = c.head_size-start in
    let tell = c.tell in
    let is = sym c.in_ok-h.was ∙ head.ensures in
    let all = promised (told_past (ap (λ (r : Result FileHead Refusal). outcome r) is)
    (file_told _ _ entries.ensures.is head_size_lem.ensures ∙ ap (λ (r : Result FileHead Refusal). read_lengths r) is) tell.ensures) in
    record { value = all.0; lengths_after = all.1 }
