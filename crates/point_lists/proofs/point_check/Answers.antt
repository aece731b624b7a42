-- `point_check` meets its contract: each way through it has its law. Assumes nothing.
use Rattle.point_lists.specs.Checks.{counted, point_tables, point_orders, point_work, point_passed}
use Rattle.storage.specs.Checks.{tables_passed}
use native.Mathlib.Omega.{arith}
use Rattle.refusal.proofs.Exits.{same_refusal}
use Rattle.point_lists.proofs.point_check.Goals as goal

pub overflow_add-nmax : goal.overflow_add-nmax
overflow_add-nmax c = let t = tables_passed _ _ _ c.in_ok-tables_check.ensures in omega arith

pub overflow_add-nmax-2 : goal.overflow_add-nmax-2
overflow_add-nmax-2 c = let t = tables_passed _ _ _ c.in_ok-tables_check.ensures in omega arith

pub returns-then-trig-nmax : goal.returns-then-trig-nmax
returns-then-trig-nmax c = point_orders _ _ _ _ _ _ c.in_ok-tables_check.ensures (λ e. omega arith)

pub overflow_mul-tables : goal.overflow_mul-tables
overflow_mul-tables c = let t = counted _ _ _ _ c.requires c.in_ok-tables_check.ensures in omega arith

pub returns-then-work-tables : goal.returns-then-work-tables
returns-then-work-tables c =
    let d = c.in_ok-tables_check.ensures in
    let t = counted _ _ _ _ c.requires d in
    point_work _ _ _ _ _ _ d (omega arith) (omega arith)

pub returns-in_err-tables_check : goal.returns-in_err-tables_check
returns-in_err-tables_check c = same_refusal c.from_residual.ensures.1 (point_tables _ _ _ _ _ _ c.in_err-tables_check.ensures)

pub returns : goal.returns
returns c =
    let d = c.in_ok-tables_check.ensures in
    let t = counted _ _ _ _ c.requires d in
    point_passed _ _ _ _ _ _ d (omega arith) (omega arith)
