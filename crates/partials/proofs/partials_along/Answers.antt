-- `partials_along` meets its contract: past the checks the points are written. Assumes nothing.
use Rattle.point_lists.specs.Checks.{many_accepted}
use mathlib.Core.Path.{sym, ◌∙◌}
use Rattle.partials.proofs.partials_along.Goals as goal

pub compute-requires : goal.compute-requires
compute-requires c =
    let along-check = c.along_check in
    many_accepted 4 4 _ _ _ _ _ _ _ _ _ (sym c.in_ok-along_check.was ∙ along-check.ensures)

pub returns : goal.returns
returns c =
    let along-check = c.along_check in
    let compute = c.compute in
    let made = compute.ensures in
    record { value = sym c.in_ok-along_check.was ∙ along-check.ensures; out_after = made.values.is; work_unchanged = made.rest; work_len_unchanged = made.long }
