-- `geopotential_degree_amplitudes` meets its contract. Assumes nothing.
use Rattle.geopotential.specs.Models.{amplitudes_unknown, amplitudes_known}
use Rattle.geopotential.specs.Functionals.{functional_decoded}
use Rattle.geopotential.proofs.models.geopotential_degree_amplitudes.Goals as goal

pub returns-in_default : goal.returns-in_default
returns-in_default c =
    let all = amplitudes_unknown _ _ _ _ _ _ _ _ c.in_default.ensures.1 in
    record { value = all.0; out_after = all.1 }

pub returns : goal.returns
returns c =
    let (h, p) = functional_decoded c.in-Ok.ensures in
    let all = amplitudes_known _ _ _ _ _ _ _ _ h p c.degree_amplitudes.ensures.value c.result_number.ensures
    c.degree_amplitudes.ensures.out_after in
    record { value = all.0; out_after = all.1 }
