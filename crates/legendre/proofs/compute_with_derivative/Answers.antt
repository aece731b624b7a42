-- `compute_with_derivative` meets its contract: past the checks P is filled, and its derivative from it. Assumes nothing.
use Rattle.storage.specs.Answers.{size_is}
use Rattle.storage.specs.Checks.{outputs_passed}
use Rattle.derivative.specs.Derivative.{derived}
use Rattle.legendre.specs.MirrorLaws.{derive_promise}
use native.Mathlib.Omega.{arith}
use mathlib.Core.Path.{sym, ◌∙◌}
use Rattle.legendre.proofs.compute_with_derivative.Goals as goal

pub compute-requires : goal.compute-requires
compute-requires c =
    let o = outputs_passed _ _ _ _ _ _ (sym c.in_ok-outputs_check.was ∙ c.outputs_check.ensures) in
    let z = size_is _ o.tables.top in
    record { fact_1 = o.tables.top; fact_2 = omega arith; fact_3 = omega arith; fact_4 = omega arith }

pub derive-requires : goal.derive-requires
derive-requires c =
    let o = outputs_passed _ _ _ _ _ _ (sym c.in_ok-outputs_check.was ∙ c.outputs_check.ensures) in
    let z = size_is _ o.tables.top in
    let long = c.compute.ensures.long in
    (o.tables.top, (omega arith, omega arith))

pub returns : goal.returns
returns c =
    let ok = sym c.in_ok-outputs_check.was ∙ c.outputs_check.ensures in
    let o = outputs_passed _ _ _ _ _ _ ok in
    let z = size_is _ o.tables.top in
    let values = c.compute.ensures in
    let a = c.args in
    let all = derive_promise a.nmax a.latitude.t a.latitude.u a.a.now a.b.now a.p.now a.dp.now (
    record { answers = ok; leaves = values.is; leaves_derivative = (derived _ _ values (omega arith) c.derive.ensures).is }) in
    record { value = all.0; p_after = all.1.0; dp_after = all.1.1 }
