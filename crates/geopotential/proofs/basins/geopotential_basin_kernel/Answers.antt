-- `geopotential_basin_kernel` meets its contract. Assumes nothing.
use Rattle.coefficients.specs.Values.{zero_head}
use Rattle.number.specs.Float64.{one64}
use Rattle.basin_kernel.specs.Kernel.{kernel_check}
use mathlib.Core.Path.{◌≡◌, ◌∙◌}
use lib.ListN.{length}
use Rattle.geopotential.proofs.basins.geopotential_basin_kernel.Goals as goal
use Rattle.refusal.specs.Numbers.{number_is, outcome, outcome_is}

pub returns : goal.returns
returns c =
    let a = c.args in
    let f = c.basin_kernel in
    let check = kernel_check a.lmax a.nodes (length a.weights.now) (length a.latitudes.now) (length a.marks.now) (length a.s.now)
    (length a.c.now) (length a.work.now) (length a.kc.now) (length a.ks.now) in
    let e : outcome f.result ≡ check = outcome_is check (zero_head one64 one64 a.lmax) f.ensures.value in
    record { value = c.result_number.ensures ∙ number_is check (zero_head one64 one64 a.lmax) f.ensures.value; kc_after = rw (← e) f.ensures.kc_after; ks_after = rw (← e) f.ensures.ks_after; work_unchanged_1 = rw (← e) f.ensures.work_unchanged_1; work_unchanged_2 = f.ensures.work_unchanged_2 }
