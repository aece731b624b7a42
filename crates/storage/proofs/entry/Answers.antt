-- `entry` meets its contract: an index that `storage::place` answers lies within the table. Assumes nothing.
use Rattle.storage.specs.Triangle.{table_size_most}
use Rattle.storage.specs.Answers.{size_is, placed}
use Rattle.storage.specs.Checks.{entry_size, entry_length, entry_at}
use native.Mathlib.Omega.{arith}
use mathlib.Core.Path.{sym, ◌∙◌}
use Rattle.refusal.proofs.Exits.{same_refusal}
use Rattle.storage.proofs.entry.Goals as goal

pub returns-then-nmax-gt-MAX_DEGREE : goal.returns-then-nmax-gt-MAX_DEGREE
returns-then-nmax-gt-MAX_DEGREE c = entry_size _ _ _ _ (omega arith)

pub returns-then-table-table_size : goal.returns-then-table-table_size
returns-then-table-table_size c =
    let a = c.args in
    let z = c.table_size.ensures ∙ size_is a.nmax (omega arith) in
    entry_length _ _ _ _ (omega arith) (λ e. omega arith)

pub offset_bounds-table-k : goal.offset_bounds-table-k
offset_bounds-table-k c =
    let at = sym c.in_ok-k.was ∙ c.place.ensures in
    let p = placed _ _ _ _ at in
    omega (arith, table_size_most c.args.nmax p.top)

pub bounds-table-k : goal.bounds-table-k
bounds-table-k c =
    let a = c.args in
    let at = sym c.in_ok-k.was ∙ c.place.ensures in
    let p = placed _ _ _ _ at in
    let z = c.table_size.ensures ∙ size_is a.nmax (omega arith) in
    omega arith

pub returns : goal.returns
returns c =
    let a = c.args in
    let z = c.table_size.ensures ∙ size_is a.nmax (omega arith) in
    entry_at _ _ _ _ (omega arith) (omega arith) (sym c.in_ok-k.was ∙ c.place.ensures)

pub returns-in_err-k : goal.returns-in_err-k
returns-in_err-k c =
    let z = c.table_size.ensures ∙ size_is c.args.nmax (omega arith) in
    same_refusal c.from_residual.ensures.1 (entry_at _ _ _ _ (omega arith) (omega arith) c.in_err-k.ensures)
