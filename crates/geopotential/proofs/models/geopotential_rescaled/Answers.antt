-- `geopotential_rescaled` meets its contract. Assumes nothing.
use mathlib.Core.Path.{◌≡◌, ◌∙◌}
use Rattle.geopotential.specs.Models.{same_check}
use Rattle.geopotential.proofs.models.geopotential_rescaled.Goals as goal
use Rattle.refusal.specs.Numbers.{number_is, outcome, outcome_is}

pub returns : goal.returns
returns c =
    let a = c.args in
    let check = same_check a.nmax a.c.now a.s.now a.outc.now a.outs.now in
    let e : outcome c.rescaled.result ≡ check = outcome_is check _ c.rescaled.ensures.value in
    record { value = c.result_number.ensures ∙ number_is check _ c.rescaled.ensures.value; outc_after = rw (← e) c.rescaled.ensures.outc_after; outs_after = rw (← e) c.rescaled.ensures.outs_after }
