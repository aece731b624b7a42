-- The exit of a `?`: what was refused below is refused above, by the same reason. Assumes nothing.
use Rattle.std.specs.Prelude.{◌≡◌, Result, Err, IsErrAnd}
use Rattle.std.proofs.Common.{◌∙◌, ap}
use Rattle.std.proofs.lemmas.Result.{err_from_is_err_and}
use Rattle.refusal.specs.declared.Refusal.{Refusal}

pub same_refusal : {A : Type 0} {r x : Result A Refusal} {e : Refusal} → IsErrAnd r (λ f. f ≡ e) → Err e ≡ x → r ≡ x
same_refusal {A} {r} {x} {e} h z =
    let (f, is, same) = err_from_is_err_and r h in
    is ∙ ap (λ (g : Refusal). Err g) same ∙ z
