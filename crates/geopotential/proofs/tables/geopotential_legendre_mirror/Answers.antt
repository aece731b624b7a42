-- `geopotential_legendre_mirror` meets its contract. Assumes nothing.
use Rattle.geopotential.proofs.tables.geopotential_legendre_mirror.Goals as goal

pub returns : goal.returns
returns c =
    let w = c.mirror.ensures in
    record { value = rw (← w.value) c.result_number.ensures; table_after = rw (← w.value) w.table_after }
