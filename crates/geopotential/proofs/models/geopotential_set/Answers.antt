-- `geopotential_set` meets its contract. Assumes nothing.
use Rattle.geopotential.proofs.models.geopotential_set.Goals as goal

pub returns : goal.returns
returns c =
    let e = c.set.ensures.value in
    record { value = rw (← e) c.result_number.ensures; c_after = rw (← e) c.set.ensures.c_after; s_after = rw (← e) c.set.ensures.s_after }
