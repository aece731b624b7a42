-- `geopotential_partials_along` meets its contract. Assumes nothing.
use Rattle.geopotential.proofs.points.geopotential_partials_along.Goals as goal

pub returns : goal.returns
returns c =
    let f = c.partials_along in
    let e = f.ensures.value in
    record { value = rw (← e) c.result_number.ensures; out_after = rw (← e) f.ensures.out_after; work_unchanged = rw (← e) f.ensures.work_unchanged; work_len_unchanged = f.ensures.work_len_unchanged }
