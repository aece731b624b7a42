-- `geopotential_legendre_new` meets its contract. Assumes nothing.
use Rattle.geopotential.proofs.tables.geopotential_legendre_new.Goals as goal

pub returns : goal.returns
returns c =
    let e = c.new.ensures.value in
    record { value = rw (← e) c.result_number.ensures; a_after = rw (← e) c.new.ensures.a_after; b_after = rw (← e) c.new.ensures.b_after }
