-- `geopotential_polar_cap` meets its contract. Assumes nothing.
use Rattle.geopotential.proofs.polar_caps.geopotential_polar_cap.Goals as goal

pub returns : goal.returns
returns c =
    let f = c.polar_cap in
    let e = f.ensures.value in record { value = rw (← e) c.result_number.ensures; orders_after = rw (← e) f.ensures.orders_after; concentrations_after = rw (← e) f.ensures.concentrations_after; vectors_after = rw (← e) f.ensures.vectors_after; settled_after = rw (← e) f.ensures.settled_after; work_unchanged = rw (← e) f.ensures.work_unchanged_1; work_len_unchanged = f.ensures.work_unchanged_2 }
