-- `geopotential_legendre_entry` meets its contract. Assumes nothing.
use borrow.Author.Rules.{rules}
use Rattle.geopotential.proofs.tables.geopotential_legendre_entry.Goals as goal

pub returns : goal.returns
returns c =
    let e = c.p.ensures in
    record { value = rw (← e) c.hand_on.ensures.value; value_after = rw (← e) c.hand_on.ensures.value_after }
