-- `intervals` meets its contract: refused before the crossings are counted, for want of room, or done. Assumes nothing.
use Rattle.polygon.specs.CheckLaws.{vertices_accepted, refused_before, room_checked, room_short, room_enough, count_refused, count_done}
use Rattle.polygon.specs.EndsLaws.{length_intervals}
use native.Mathlib.Omega.{arith}
use mathlib.Core.Path.{refl, ◌∙◌}
use Rattle.refusal.proofs.Exits.{same_refusal}
use Rattle.polygon.proofs.intervals.Goals as goal

pub count_crossings-k-requires : goal.count_crossings-k-requires
count_crossings-k-requires c = let t = vertices_accepted _ _ _ c.in_ok-vertices_check.ensures in record { fact_1 = omega (arith, t); fact_2 = omega (arith, t) }

pub returns-then-out-k : goal.returns-then-out-k
returns-then-out-k c =
    let told = c.in_ok-vertices_check.ensures in
    let e = c.count_crossings-k.ensures.fact_1 in
    let n = length_intervals c.args.v c.args.outline.now c.args.theta in
    record { value = count_refused _ (room_short _ _ (omega (arith, e, n)) ∙ room_checked _ _ _ _ _ told); out_after = refl; work_unchanged_1 = refl; work_unchanged_2 = refl }

pub compute-requires : goal.compute-requires
compute-requires c = let t = vertices_accepted _ _ _ c.in_ok-vertices_check.ensures in omega (arith, t)

pub returns-in_err-vertices_check : goal.returns-in_err-vertices_check
returns-in_err-vertices_check c = rw (same_refusal c.from_residual.ensures.1 refl) (record { value = count_refused _ (refused_before _ _ _ _ _ _ c.in_err-vertices_check.ensures); out_after = refl; work_unchanged_1 = refl; work_unchanged_2 = refl })

pub returns : goal.returns
returns c =
    let told = c.in_ok-vertices_check.ensures in
    let e = c.count_crossings-k.ensures.fact_1 in
    let n = length_intervals c.args.v c.args.outline.now c.args.theta in
    let made = c.compute.ensures in
    record { value = count_done (room_enough _ _ (omega (arith, e, n)) ∙ room_checked _ _ _ _ _ told) (omega (arith, e)); out_after = made.ends.is; work_unchanged_1 = made.behind; work_unchanged_2 = made.long }
