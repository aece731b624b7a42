-- `compute` meets its contract: each way through its checks, and the table past them. Assumes nothing.
use Rattle.legendre.specs.Checks.{compute_tables, compute_space, compute_done}
use Rattle.legendre.specs.MirrorLaws.{compute_promise}
use Rattle.storage.specs.Answers.{size_is}
use Rattle.storage.specs.Checks.{tables_passed}
use native.Mathlib.Omega.{arith}
use mathlib.Core.Path.{refl}
use Rattle.refusal.proofs.Exits.{same_refusal}
use Rattle.legendre.proofs.compute.Goals as goal

pub returns-then-p-table_size : goal.returns-then-p-table_size
returns-then-p-table_size c =
    let ok = c.in_ok-tables_check.ensures in
    let t = tables_passed _ _ _ ok in
    let z = size_is _ t.top in
    let a = c.args in
    let all = compute_promise a.nmax a.latitude.t a.latitude.u a.a.now a.b.now a.p.now (record { answers = compute_space a.nmax _ _ _ ok (omega arith); leaves = refl }) in
    record { value = all.0; p_after = all.1 }

pub compute-requires : goal.compute-requires
compute-requires c =
    let ok = c.in_ok-tables_check.ensures in
    let t = tables_passed _ _ _ ok in
    let z = size_is _ t.top in
    record { fact_1 = t.top; fact_2 = omega arith; fact_3 = omega arith; fact_4 = omega arith }

pub returns-in_err-tables_check : goal.returns-in_err-tables_check
returns-in_err-tables_check c =
    let refused = c.in_err-tables_check.ensures in
    let a = c.args in
    let all = compute_promise a.nmax a.latitude.t a.latitude.u a.a.now a.b.now a.p.now (record { answers = compute_tables a.nmax _ _ _ refused; leaves = refl }) in
    rw (same_refusal c.from_residual.ensures.1 refl) (record { value = all.0; p_after = all.1 })

pub returns : goal.returns
returns c =
    let ok = c.in_ok-tables_check.ensures in
    let t = tables_passed _ _ _ ok in
    let z = size_is _ t.top in
    let a = c.args in
    let all = compute_promise a.nmax a.latitude.t a.latitude.u a.a.now a.b.now a.p.now (record { answers = compute_done a.nmax _ _ _ ok (omega arith); leaves = c.compute.ensures.is }) in
    record { value = all.0; p_after = all.1 }
