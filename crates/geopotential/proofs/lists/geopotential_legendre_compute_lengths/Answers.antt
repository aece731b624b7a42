-- `geopotential_legendre_compute_lengths` meets its contract. Assumes nothing.
use Rattle.lengths.specs.Told.{numbered}
use Rattle.geopotential.proofs.lists.geopotential_legendre_compute_lengths.Goals as goal

pub returns : goal.returns
returns c =
    let all = numbered _ _ _ (c.legendre_compute.ensures.value, c.legendre_compute.ensures.lengths_after) c.result_number.ensures in
    record { value = all.0; lengths_after = all.1 }
