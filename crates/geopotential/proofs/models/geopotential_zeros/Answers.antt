-- `geopotential_zeros` meets its contract. Assumes nothing.
use mathlib.Core.Path.{◌≡◌, ◌∙◌}
use lib.ListN.{length}
use Rattle.storage.specs.Checks.{room_check}
use Rattle.coefficients.specs.Values.{zero_head}
use Rattle.geopotential.proofs.models.geopotential_zeros.Goals as goal
use Rattle.refusal.specs.Numbers.{number_is, outcome, outcome_is}

pub returns : goal.returns
returns c =
    let a = c.args in
    let check = room_check a.nmax (length a.c.now) (length a.s.now) in
    let e : outcome c.zeros.result ≡ check = outcome_is check (zero_head a.gm a.radius a.nmax) c.zeros.ensures.value in
    record { value = c.result_number.ensures ∙ number_is check (zero_head a.gm a.radius a.nmax) c.zeros.ensures.value; c_after = rw (← e) c.zeros.ensures.c_after; s_after = rw (← e) c.zeros.ensures.s_after }
