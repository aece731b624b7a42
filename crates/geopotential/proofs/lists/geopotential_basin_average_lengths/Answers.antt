-- `geopotential_basin_average_lengths` meets its contract. Assumes nothing.
use Rattle.lengths.specs.Told.{numbered}
use Rattle.geopotential.proofs.lists.geopotential_basin_average_lengths.Goals as goal

pub returns : goal.returns
returns c =
    let all = numbered _ _ _ (c.basin_average.ensures.value, c.basin_average.ensures.lengths_after) c.result_number.ensures in
    record { value = all.0; lengths_after = all.1 }
