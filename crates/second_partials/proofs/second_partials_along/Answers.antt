-- `second_partials_along` meets its contract: past the checks the points are written. Assumes nothing.
use Rattle.point_lists.specs.Checks.{many_accepted}
use mathlib.Core.Path.{sym, ◌∙◌}
use Rattle.second_partials.proofs.second_partials_along.Goals as goal

pub compute-requires : goal.compute-requires
compute-requires c = many_accepted 5 10 _ _ _ _ _ _ _ _ _ (sym c.in_ok-along_check.was ∙ c.along_check.ensures)

pub returns : goal.returns
returns c =
    let made = c.compute.ensures in
    record { value = sym c.in_ok-along_check.was ∙ c.along_check.ensures; out_after = made.values.is; work_unchanged = made.rest; work_len_unchanged = made.long }
