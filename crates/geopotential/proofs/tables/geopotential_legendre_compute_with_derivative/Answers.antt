-- `geopotential_legendre_compute_with_derivative` meets its contract. Assumes nothing.
use Rattle.geopotential.proofs.tables.geopotential_legendre_compute_with_derivative.Goals as goal

pub returns : goal.returns
returns c =
    let e = c.compute_with_derivative.ensures.value in
    record { value = rw (← e) c.result_number.ensures; p_after = rw (← e) c.compute_with_derivative.ensures.p_after; dp_after = rw (← e) c.compute_with_derivative.ensures.dp_after }
