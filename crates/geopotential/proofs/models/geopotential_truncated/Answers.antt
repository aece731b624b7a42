-- `geopotential_truncated` meets its contract. Assumes nothing.
use mathlib.Core.Path.{◌≡◌, ◌∙◌}
use Rattle.geopotential.specs.Models.{cut_check, degree_is}
use Rattle.geopotential.proofs.models.geopotential_truncated.Goals as goal
use Rattle.refusal.specs.Numbers.{number_is, outcome, outcome_is}

pub returns : goal.returns
returns c =
    let a = c.args in
    let check = cut_check a.nmax a.c.now a.s.now a.cut a.outc.now a.outs.now in
    let e : outcome c.truncated.result ≡ check = outcome_is check _ c.truncated.ensures.value in record { value = c.hand_on_degree.ensures.value ∙ number_is check _ c.truncated.ensures.value; outc_after = rw (← e) c.truncated.ensures.outc_after; outs_after = rw (← e) c.truncated.ensures.outs_after; degree_after = c.hand_on_degree.ensures.degree_after ∙ degree_is check _ a.degree.now c.truncated.ensures.value }
