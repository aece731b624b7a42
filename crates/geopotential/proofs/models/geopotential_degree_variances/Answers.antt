-- `geopotential_degree_variances` meets its contract. Assumes nothing.
use Rattle.geopotential.proofs.models.geopotential_degree_variances.Goals as goal

pub returns : goal.returns
returns c =
    let e = c.degree_variances.ensures.value in
    record { value = rw (← e) c.result_number.ensures; out_after = rw (← e) c.degree_variances.ensures.out_after }
