-- `geopotential_polygon_intervals` meets its contract. Assumes nothing.
use Rattle.polygon.specs.Checks.{outline_check}
use Rattle.polygon.specs.Outline.{intervals_of}
use mathlib.Core.Path.{◌≡◌, ◌∙◌}
use lib.ListN.{length}
use Rattle.geopotential.proofs.basins.geopotential_polygon_intervals.Goals as goal
use Rattle.refusal.specs.Numbers.{number_is, outcome, outcome_is, value_is}

pub returns : goal.returns
returns c =
    let a = c.args in
    let f = c.intervals in
    let h = c.hand_on.ensures in
    let check = outline_check a.vertices (length a.outline.now) (length a.work.now) (length a.out.now)
    (length (intervals_of a.vertices a.outline.now a.theta)) in
    let e : outcome f.result ≡ check = outcome_is check _ f.ensures.value in
    record { value = h.value ∙ number_is check _ f.ensures.value; out_after = rw (← e) f.ensures.out_after; work_unchanged_1 = rw (← e) f.ensures.work_unchanged_1; work_unchanged_2 = f.ensures.work_unchanged_2; count_after = h.value_after ∙ value_is check _ a.count.now f.ensures.value }
