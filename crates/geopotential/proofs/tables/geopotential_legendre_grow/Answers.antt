-- `geopotential_legendre_grow` meets its contract. Assumes nothing.
use Rattle.geopotential.proofs.tables.geopotential_legendre_grow.Goals as goal

pub returns : goal.returns
returns c =
    let e = c.grow.ensures.value in
    record { value = rw (← e) c.result_number.ensures; a_after = rw (← e) c.grow.ensures.a_after; b_after = rw (← e) c.grow.ensures.b_after }
