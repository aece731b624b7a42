-- `polar_cap` meets its contract: past the checks the outputs are written. Assumes nothing.
use mathlib.Core.Path.{sym, ◌∙◌}
use Rattle.polar_cap.specs.CapChecks.{cap_accepted}
use Rattle.polar_cap.proofs.polar_cap.Goals as goal

pub compute-requires : goal.compute-requires
compute-requires c = cap_accepted _ _ _ _ _ _ _ _ (sym
    c.in_ok-cap_check.was ∙ c.cap_check.ensures)

pub returns : goal.returns
returns c =
    let m = c.compute.ensures in
    let e = sym c.in_ok-cap_check.was ∙ c.cap_check.ensures in
    record { value = e; orders_after = m.orders.is; concentrations_after = m.concentrations.is; vectors_after = m.vectors.is; settled_after = m.settled.is; work_unchanged_1 = m.kept.behind; work_unchanged_2 = m.kept.long }
