-- `geopotential_concentration_matrix` meets its contract. Assumes nothing.
use Rattle.geopotential.proofs.free_regions.geopotential_concentration_matrix.Goals as goal

pub returns : goal.returns
returns c =
    let f = c.concentration_matrix in
    let e = f.ensures.value in record { value = rw (← e) c.result_number.ensures; matrix_after = rw (← e) f.ensures.matrix_after; symmetric = rw (← e) f.ensures.symmetric; work_unchanged = f.ensures.work_unchanged }
