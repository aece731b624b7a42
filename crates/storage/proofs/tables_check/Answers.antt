-- `tables_check` meets its contract: each way through it has its law. Assumes nothing.
use Rattle.storage.specs.Answers.{size_is}
use Rattle.storage.specs.Checks.{tables_size, tables_c, tables_s, tables_done}
use native.Mathlib.Omega.{arith}
use mathlib.Core.Path.{◌∙◌}
use borrow.Author.Rules.{rules}
use Rattle.storage.proofs.tables_check.Goals as goal

pub returns-then-nmax-gt-MAX_DEGREE : goal.returns-then-nmax-gt-MAX_DEGREE
returns-then-nmax-gt-MAX_DEGREE c = tables_size _ _ _ (omega arith)

pub returns-then-clen-size : goal.returns-then-clen-size
returns-then-clen-size c =
    let a = c.args in
    let z = c.table_size-size.ensures ∙ size_is a.nmax (omega arith) in
    tables_c _ _ _ (omega arith) (λ e. omega arith)

pub returns-then-slen-size : goal.returns-then-slen-size
returns-then-slen-size c =
    let a = c.args in
    let z = c.table_size-size.ensures ∙ size_is a.nmax (omega arith) in
    tables_s _ _ _ (omega arith) (omega arith) (λ e. omega arith)

pub returns : goal.returns
returns c =
    let a = c.args in
    let z = c.table_size-size.ensures ∙ size_is a.nmax (omega arith) in
    tables_done _ _ _ (omega arith) (omega arith) (omega arith)
