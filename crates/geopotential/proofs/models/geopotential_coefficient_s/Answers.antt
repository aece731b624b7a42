-- `geopotential_coefficient_s` meets its contract. Assumes nothing.
use borrow.Author.Rules.{rules}
use Rattle.geopotential.proofs.models.geopotential_coefficient_s.Goals as goal

pub returns : goal.returns
returns c =
    let e = c.s.ensures in
    record { value = rw (← e) c.hand_on.ensures.value; value_after = rw (← e) c.hand_on.ensures.value_after }
