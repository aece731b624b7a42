-- `Head::set` meets its contract: past its checks it writes the one index of both lists. Assumes nothing.
use lib.ListN.{set}
use Rattle.storage.specs.Answers.{placed}
use Rattle.storage.specs.Checks.{tables_passed}
use Rattle.coefficients.specs.Checks.{set_check}
use native.Mathlib.Omega.{arith}
use mathlib.Core.Path.{ap}
use Prim.Native.Nat.{ℕ}
use Rattle.refusal.proofs.Exits.{same_refusal}
use Rattle.coefficients.proofs.Head.set.Goals as goal
use Rattle.refusal.specs.Numbers.{done_then, outcome, refused_then}

pub offset_bounds-c-k : goal.offset_bounds-c-k
offset_bounds-c-k c =
    let ok = c.in_ok-tables_check.ensures in
    let t = tables_passed _ _ _ ok in
    let at = c.in_ok-k.ensures in
    let p = placed _ _ _ _ at in
    omega arith

pub bounds-c-k : goal.bounds-c-k
bounds-c-k c =
    let ok = c.in_ok-tables_check.ensures in
    let t = tables_passed _ _ _ ok in
    let at = c.in_ok-k.ensures in
    let p = placed _ _ _ _ at in
    omega arith

pub offset_bounds-s-k : goal.offset_bounds-s-k
offset_bounds-s-k c =
    let ok = c.in_ok-tables_check.ensures in
    let t = tables_passed _ _ _ ok in
    let at = c.in_ok-k.ensures in
    let p = placed _ _ _ _ at in
    omega arith

pub bounds-s-k : goal.bounds-s-k
bounds-s-k c =
    let ok = c.in_ok-tables_check.ensures in
    let t = tables_passed _ _ _ ok in
    let at = c.in_ok-k.ensures in
    let p = placed _ _ _ _ at in
    omega arith

pub returns-in_err-tables_check-clause-value : goal.returns-in_err-tables_check-clause-value
unfolding set_check
returns-in_err-tables_check-clause-value c = same_refusal c.from_residual.ensures.1 (refused_then _ _ c.in_err-tables_check.ensures)

pub returns-in_err-k-clause-value : goal.returns-in_err-k-clause-value
unfolding set_check
returns-in_err-k-clause-value c = same_refusal c.from_residual-in_err-k.ensures.1 (done_then c.in_ok-tables_check.ensures (ap outcome c.in_err-k.ensures))

pub returns : goal.returns
unfolding set_check
returns c =
    let a = c.args in
    let ok = c.in_ok-tables_check.ensures in
    let at = c.in_ok-k.ensures in
    let p = placed _ _ _ _ at in record { value = done_then ok (ap outcome at); c_after = ap (λ (i : ℕ). set a.c.now i a.cnm) p.is; s_after = ap (λ (i : ℕ). set a.s.now i a.snm) p.is }
