-- `geopotential_legendre_mirror_derivative` meets its contract. Assumes nothing.
use Rattle.geopotential.proofs.tables.geopotential_legendre_mirror_derivative.Goals as goal

pub returns : goal.returns
returns c =
    let w = c.mirror_derivative.ensures in
    record { value = rw (← w.value) c.result_number.ensures; table_after = rw (← w.value) w.table_after }
