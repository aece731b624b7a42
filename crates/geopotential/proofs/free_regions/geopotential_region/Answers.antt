-- `geopotential_region` meets its contract. Assumes nothing.
use mathlib.Core.Path.{◌≡◌, ◌∙◌}
use lib.ListN.{length}
use Rattle.region.specs.Region.{region_check}
use Rattle.geopotential.specs.Matrices.{settled_is, count_is, handed_within}
use Rattle.geopotential.proofs.free_regions.geopotential_region.Goals as goal
use Rattle.refusal.specs.Numbers.{number_is, outcome, outcome_is}

pub returns : goal.returns
returns c =
    let a = c.args in
    let check = region_check a.lmax a.nodes (length a.weights.now) (length a.latitudes.now) (length a.marks.now) (length a.s.now)
    (length a.c.now) (length a.work.now) (length a.concentrations.now) (length a.cs.now) (length a.ss.now) in
    let f = c.region-ended in
    let h = c.hand_on_convergence.ensures in
    let e : outcome f.result ≡ check = outcome_is check _ f.ensures.value_1 in record { value = h.value ∙ number_is check _ f.ensures.value_1; concentrations_after = rw (← e) f.ensures.concentrations_after; cs_after = rw (← e) f.ensures.cs_after; ss_after = rw (← e) f.ensures.ss_after; work_unchanged = rw (← e) f.ensures.work_unchanged_1; work_len_unchanged = f.ensures.work_unchanged_2; settled_after = h.settled_after ∙ settled_is check _ a.settled.now f.ensures.value_1; count_after = h.count_after ∙ count_is check _ a.count.now f.ensures.value_1; count_bound = handed_within f.result _ a.count.now h.value h.count_after f.ensures.value_2 }
