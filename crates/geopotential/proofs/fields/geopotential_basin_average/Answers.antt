-- `geopotential_basin_average` meets its contract. Assumes nothing.
use borrow.Author.Rules.{rules}
use Rattle.geopotential.specs.Fields.{basin_answer, basin_unknown, basin_known}
use Rattle.geopotential.specs.Functionals.{functional_decoded}
use Rattle.geopotential.proofs.fields.geopotential_basin_average.Goals as goal

pub returns-in_default : goal.returns-in_default
returns-in_default c =
    let all = basin_unknown _ _ _ _ _ _ _ _ _ _ _ _ c.in_default.ensures.1 in
    record { value = all.0; value_after = all.1.0; average_within = all.1.1 }

pub returns : goal.returns
unfolding basin_answer
returns c =
    let (h, p) = functional_decoded c.in-Ok.ensures in
    let all = basin_known _ _ _ _ _ _ _ _ _ _ _ _ h p c.basin_average.ensures.value c.hand_on.ensures.value c.hand_on.ensures.value_after
    c.basin_average.ensures.within_margin in
    record { value = all.0; value_after = all.1.0; average_within = all.1.1 }
