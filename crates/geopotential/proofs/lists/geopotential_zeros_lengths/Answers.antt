-- `geopotential_zeros_lengths` meets its contract. Assumes nothing.
use Rattle.lengths.specs.Told.{numbered}
use Rattle.geopotential.proofs.lists.geopotential_zeros_lengths.Goals as goal

pub returns : goal.returns
returns c =
    let all = numbered _ _ _ (c.zeros.ensures.value, c.zeros.ensures.lengths_after) c.result_number.ensures in
    record { value = all.0; lengths_after = all.1 }
