-- `region_check` meets its contract: each way through it has its law. Assumes nothing.
use native.Mathlib.Omega.{arith}
use mathlib.Core.Path.{sym, ◌∙◌}
use Rattle.regions.specs.CheckLaws.{nodes_accepted}
use Rattle.region.specs.RegionChecks.{nodes_refused, short_work, short_concentrations, short_cosines, short_sines, all_passed}
use Rattle.refusal.proofs.Exits.{same_refusal}
use Rattle.region.proofs.region_check.Goals as goal

pub region_sizes-sizes-requires : goal.region_sizes-sizes-requires
region_sizes-sizes-requires c = (nodes_accepted _ _ _ _ _ _ _ _ c.in_ok-nodes_check.ensures).top

pub returns-then-work-sizes : goal.returns-then-work-sizes
returns-then-work-sizes c =
    let s = c.region_sizes-sizes.ensures in
    short_work _ _ _ _ _ _ _ _ _ _ _ c.in_ok-nodes_check.ensures (omega (arith, s.of_work))

pub returns-then-concentrations-sizes : goal.returns-then-concentrations-sizes
returns-then-concentrations-sizes c =
    let nodes-check = c.nodes_check in
    let s = c.region_sizes-sizes.ensures in
    short_concentrations _ _ _ _ _ _ _ _ _ _ _ (sym c.in_ok-nodes_check.was ∙ nodes-check.ensures) (omega
    (arith, s.of_work)) (omega (arith, s.of_functions))

pub returns-then-cs-sizes : goal.returns-then-cs-sizes
returns-then-cs-sizes c =
    let nodes-check = c.nodes_check in
    let region-sizes = c.region_sizes-sizes in
    let s = region-sizes.ensures in
    short_cosines _ _ _ _ _ _ _ _ _ _ _ (sym c.in_ok-nodes_check.was ∙ nodes-check.ensures) (omega (arith, s.of_work)) (omega (
      arith,
      s.of_functions,
    )) (omega (arith, s.of_numbers))

pub returns-then-ss-sizes : goal.returns-then-ss-sizes
returns-then-ss-sizes c =
    let nodes-check = c.nodes_check in
    let region-sizes = c.region_sizes-sizes in
    let s = region-sizes.ensures in
    short_sines _ _ _ _ _ _ _ _ _ _ _ (sym c.in_ok-nodes_check.was ∙ nodes-check.ensures) (omega (arith, s.of_work)) (omega (arith, s.of_functions))
    (omega (arith, s.of_numbers)) (omega (arith, s.of_numbers))

pub returns-in_err-nodes_check : goal.returns-in_err-nodes_check
returns-in_err-nodes_check c = same_refusal c.from_residual.ensures.1 (nodes_refused _ _ _ _ _ _ _ _ _ _ _ c.in_err-nodes_check.ensures)

pub returns : goal.returns
returns c =
    let nodes-check = c.nodes_check in
    let region-sizes = c.region_sizes-sizes in
    let s = region-sizes.ensures in
    all_passed _ _ _ _ _ _ _ _ _ _ _ (sym c.in_ok-nodes_check.was ∙ nodes-check.ensures) (omega (arith, s.of_work)) (omega (arith, s.of_functions))
    (omega (arith, s.of_numbers)) (omega (arith, s.of_numbers))
