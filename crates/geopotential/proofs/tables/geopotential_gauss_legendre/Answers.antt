-- `geopotential_gauss_legendre` meets its contract. Assumes nothing.
use Rattle.geopotential.proofs.tables.geopotential_gauss_legendre.Goals as goal

pub returns : goal.returns
returns c =
    let e = c.gauss_legendre.ensures.value in
    record { value = rw (← e) c.result_number.ensures; x_after = rw (← e) c.gauss_legendre.ensures.x_after; w_after = rw (← e) c.gauss_legendre.ensures.w_after }
