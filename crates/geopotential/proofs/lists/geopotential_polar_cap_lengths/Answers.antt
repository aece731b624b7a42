-- `geopotential_polar_cap_lengths` meets its contract. Assumes nothing.
use Rattle.lengths.specs.Told.{numbered}
use Rattle.geopotential.proofs.lists.geopotential_polar_cap_lengths.Goals as goal

pub returns : goal.returns
returns c =
    let all = numbered _ _ _ (c.polar_cap.ensures.value, c.polar_cap.ensures.lengths_after) c.result_number.ensures in
    record { value = all.0; lengths_after = all.1 }
