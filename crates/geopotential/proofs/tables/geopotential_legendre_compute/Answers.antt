-- `geopotential_legendre_compute` meets its contract. Assumes nothing.
use Rattle.geopotential.proofs.tables.geopotential_legendre_compute.Goals as goal

pub returns : goal.returns
returns c =
    let e = c.compute.ensures.value in
    record { value = rw (← e) c.result_number.ensures; p_after = rw (← e) c.compute.ensures.p_after }
