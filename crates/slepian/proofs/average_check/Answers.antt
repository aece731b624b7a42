-- `average_check` meets its contract: each way through it has its law. Assumes nothing.
use Rattle.slepian.specs.Average.{check_size, check_field, check_kernel, check_love, check_done}
use native.Mathlib.Omega.{arith}
use Rattle.refusal.proofs.Exits.{same_refusal}
use Rattle.slepian.proofs.average_check.Goals as goal

pub returns-then-kmax-gt-MAX_DEGREE : goal.returns-then-kmax-gt-MAX_DEGREE
returns-then-kmax-gt-MAX_DEGREE c = check_size _ _ _ _ _ _ _ (omega arith)

pub returns-then-lacks : goal.returns-then-lacks
returns-then-lacks c =
    check_love _ _ _ _ _ _ _ (omega arith) c.in_ok-tables_check.ensures c.in_ok-tables_check-2.ensures
    c.if-lacks.true

pub returns-in_err-tables_check : goal.returns-in_err-tables_check
returns-in_err-tables_check c = same_refusal c.from_residual.ensures.1 (check_field _ _ _ _ _ _ _ (omega arith) c.in_err-tables_check.ensures)

pub returns-in_err-tables_check-2 : goal.returns-in_err-tables_check-2
returns-in_err-tables_check-2 c =
    same_refusal c.from_residual-in_err-tables_check-2.ensures.1
    (check_kernel _ _ _ _ _ _ _ (omega arith) c.in_ok-tables_check.ensures c.in_err-tables_check-2.ensures)

pub returns : goal.returns
returns c =
    check_done _ _ _ _ _ _ _ (omega arith) c.in_ok-tables_check.ensures c.in_ok-tables_check-2.ensures
    c.if-lacks.false
