-- `Head::zeros` meets its contract: it is refused by its checks, or both lists are cleared. Assumes nothing.
use Rattle.storage.specs.Filled.{filled_to}
use Rattle.coefficients.specs.Model.{model_refused, model_made}
use Rattle.storage.specs.Answers.{size_is}
use Rattle.storage.specs.Checks.{room_passed}
use native.Mathlib.Omega.{arith}
use mathlib.Core.Path.{refl, ◌∙◌}
use Rattle.refusal.proofs.Exits.{same_refusal}
use Rattle.coefficients.proofs.Head.zeros.Goals as goal

pub clear-requires : goal.clear-requires
clear-requires c =
    let a = c.args in
    let room = room_passed _ _ _ c.in_ok-room_check.ensures in
    let z = c.table_size-size.ensures ∙ size_is a.nmax (omega arith) in
    omega arith

pub clear-requires-2 : goal.clear-requires-2
clear-requires-2 c =
    let a = c.args in
    let room = room_passed _ _ _ c.in_ok-room_check.ensures in
    let z = c.table_size-size.ensures ∙ size_is a.nmax (omega arith) in
    omega arith

pub returns-in_err-room_check : goal.returns-in_err-room_check
returns-in_err-room_check c = rw (same_refusal c.from_residual.ensures.1 refl) (record { value = model_refused _ _ c.in_err-room_check.ensures; c_after = refl; s_after = refl })

pub returns : goal.returns
returns c =
    let a = c.args in
    let ok = c.in_ok-room_check.ensures in
    let room = room_passed _ _ _ ok in
    let z = c.table_size-size.ensures ∙ size_is a.nmax (omega arith) in
    record { value = model_made _ ok; c_after = (filled_to c.clear.ensures z).is; s_after = (filled_to c.clear-2.ensures z).is }
