-- `geopotential_symmetric_eigen_lengths` meets its contract. Assumes nothing.
use Rattle.lengths.specs.Told.{numbered}
use Rattle.geopotential.proofs.lists.geopotential_symmetric_eigen_lengths.Goals as goal

pub returns : goal.returns
returns c =
    let all = numbered _ _ _ (c.symmetric_eigen.ensures.value, c.symmetric_eigen.ensures.lengths_after) c.result_number.ensures in
    record { value = all.0; lengths_after = all.1 }
