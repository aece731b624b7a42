-- `geopotential_grid` meets its contract. Assumes nothing.
use Rattle.geopotential.specs.Fields.{grid_answer, grid_unknown, grid_known}
use Rattle.geopotential.specs.Functionals.{functional_decoded}
use Rattle.geopotential.proofs.fields.geopotential_grid.Goals as goal

pub returns-in_default : goal.returns-in_default
returns-in_default c =
    let all = grid_unknown _ _ _ _ _ _ _ _ _ _ _ _ _ _ c.in_default.ensures.1 in
    record { value = all.0; out_after = all.1.0; work_unchanged = all.1.1.0; work_len_unchanged = all.1.1.1.0; by_index = all.1.1.1.1 }

pub returns : goal.returns
unfolding grid_answer
returns c =
    let (h, p) = functional_decoded c.in-Ok.ensures in
    let all = grid_known _ _ _ _ _ _ _ _ _ _ _ _ _ _ _ h p c.grid.ensures.value c.result_number.ensures c.grid.ensures.out_after
    c.grid.ensures.work_unchanged c.grid.ensures.work_len_unchanged
    c.grid.ensures.by_index in
    record { value = all.0; out_after = all.1.0; work_unchanged = all.1.1.0; work_len_unchanged = all.1.1.1.0; by_index = all.1.1.1.1 }
