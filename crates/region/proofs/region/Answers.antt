-- `region` meets its contract: past the checks the outputs are written. Assumes nothing.
use native.Mathlib.Omega.{arith}
use mathlib.Core.Path.{refl, sym, ◌∙◌}
use Rattle.linalg.specs.Solution.{solution_refused, solution_solved, count_within}
use Rattle.region.specs.RegionChecks.{region_accepted}
use Rattle.region.specs.RegionSolve.{region_count_limit}
use Rattle.refusal.proofs.Exits.{same_refusal}
use Rattle.region.proofs.region.Goals as goal

pub compute-requires : goal.compute-requires
compute-requires c =
    let region-check = c.region_check in
    region_accepted _ _ _ _ _ _ _ _ _ _ _ (sym c.in_ok-region_check.was ∙ region-check.ensures)

pub returns-in_err-region_check : goal.returns-in_err-region_check
returns-in_err-region_check c = rw (same_refusal c.from_residual.ensures.1 refl) (record { value_1 = solution_refused _ _ c.in_err-region_check.ensures; value_2 = omega arith; concentrations_after = refl; cs_after = refl; ss_after = refl; work_unchanged_1 = refl; work_unchanged_2 = refl })

pub returns : goal.returns
returns c =
    let region-check = c.region_check in
    let compute = c.compute in
    let m = compute.ensures.region_made in
    let ended = compute.ensures.value in record { value_1 = solution_solved (sym c.in_ok-region_check.was ∙ region-check.ensures) ended; value_2 = count_within ended (region_count_limit _ _); concentrations_after = m.concentrations.is; cs_after = m.cosines.is; ss_after = m.sines.is; work_unchanged_1 = m.kept.behind; work_unchanged_2 = m.kept.long }
