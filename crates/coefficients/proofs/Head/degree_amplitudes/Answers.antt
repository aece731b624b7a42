-- `Head::degree_amplitudes` meets its contract: each way through its checks, and the amplitudes past them. Assumes nothing.
use borrow.Author.Tests.{le-leb, lt-leb}
use Rattle.refusal.specs.Numbers.{refuse_yes, refuse_no, done_then, refused_then}
use Rattle.storage.specs.Checks.{tables_passed}
use Rattle.coefficients.specs.Checks.{amplitudes_check}
use native.Mathlib.Omega.{arith}
use mathlib.Core.Path.{refl, sym, ◌∙◌}
use Rattle.refusal.proofs.Exits.{same_refusal}
use Rattle.coefficients.proofs.Head.degree_amplitudes.Goals as goal

pub returns-then-lacks_love : goal.returns-then-lacks_love
unfolding amplitudes_check
returns-then-lacks_love c =
    let ok = c.in_ok-tables_check.ensures in
    record { value = done_then ok (sym (refuse_yes _ _ (cc))); out_after = refl }

pub returns-then-out-nmax : goal.returns-then-out-nmax
unfolding amplitudes_check
returns-then-out-nmax c =
    let ok = c.in_ok-tables_check.ensures in
    record { value = done_then ok (sym (refuse_no _ _ (cc) ∙ refuse_yes _ _ (le-leb _ _ c.if-out-nmax.true))); out_after = refl }

pub amplitudes-requires : goal.amplitudes-requires
amplitudes-requires c =
    let ok = c.in_ok-tables_check.ensures in
    let t = tables_passed _ _ _ ok in
    record { fact_1 = t.top; fact_2 = omega arith; fact_3 = omega arith; fact_4 = omega arith }

pub returns-in_err-tables_check : goal.returns-in_err-tables_check
unfolding amplitudes_check
returns-in_err-tables_check c = rw (same_refusal c.from_residual.ensures.1 refl) (record { value = refused_then _ _ c.in_err-tables_check.ensures; out_after = refl })

pub returns : goal.returns
unfolding amplitudes_check
returns c =
    let ok = c.in_ok-tables_check.ensures in
    record { value = done_then ok (sym (refuse_no _ _ (cc) ∙ refuse_no _ _ (lt-leb _ _ c.if-out-nmax.false))); out_after = c.amplitudes.ensures.is }
