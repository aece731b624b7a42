-- `geopotential_polygon_breaks` meets its contract. Assumes nothing.
use Rattle.polygon.specs.Checks.{outline_check}
use Rattle.polygon.specs.Outline.{breaks_of}
use mathlib.Core.Path.{◌≡◌, ◌∙◌}
use lib.ListN.{length}
use Rattle.geopotential.proofs.basins.geopotential_polygon_breaks.Goals as goal
use Rattle.refusal.specs.Numbers.{number_is, outcome, outcome_is, value_is}

pub returns : goal.returns
returns c =
    let a = c.args in
    let f = c.breaks in
    let h = c.hand_on.ensures in
    let check = outline_check a.vertices (length a.outline.now) (length a.work.now) (length a.out.now)
    (length (breaks_of a.vertices a.outline.now)) in
    let e : outcome f.result ≡ check = outcome_is check _ f.ensures.value in
    record { value = h.value ∙ number_is check _ f.ensures.value; out_after_1 = rw (← e) f.ensures.out_after; out_after_2 = f.ensures.work_unchanged; count_after = h.value_after ∙ value_is check _ a.count.now f.ensures.value }
