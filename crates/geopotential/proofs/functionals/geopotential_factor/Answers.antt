-- `geopotential_factor` meets its contract. Assumes nothing.
use borrow.Author.Rules.{rules}
use Rattle.geopotential.specs.Functionals.{factor_unknown, factor_known, functional_decoded}
use Rattle.geopotential.proofs.functionals.geopotential_factor.Goals as goal

pub returns-in_default : goal.returns-in_default
returns-in_default c =
    let all = factor_unknown _ _ _ _ _ _ _ c.in_default.ensures.1 in
    record { value = all.0; value_after = all.1 }

pub returns : goal.returns
returns c =
    let (h, p) = functional_decoded c.in-Ok.ensures in
    let all = factor_known _ _ _ _ _ _ _ h p c.factor.ensures c.hand_on.ensures.value c.hand_on.ensures.value_after in
    record { value = all.0; value_after = all.1 }
