-- `breaks` meets its contract: refused before the breaks are counted, or what their count answers. Assumes nothing.
use Rattle.std.specs.Prelude.{Result, ⊤}
use Rattle.polygon.specs.Outline.{breaks_of}
use Rattle.polygon.specs.CheckLaws.{vertices_accepted, refused_before, room_checked, count_refused}
use native.Mathlib.Omega.{arith}
use mathlib.Core.Path.{refl, ap, ◌∙◌}
use lib.ListN.{length}
use Rattle.refusal.proofs.Exits.{same_refusal}
use Rattle.polygon.proofs.breaks.Goals as goal
use Rattle.refusal.specs.declared.Refusal.{Refusal}
use Rattle.refusal.specs.Numbers.{value_if}

pub compute-requires : goal.compute-requires
compute-requires c = let t = vertices_accepted _ _ _ c.in_ok-vertices_check.ensures in omega (arith, t)

pub returns-in_err-vertices_check : goal.returns-in_err-vertices_check
returns-in_err-vertices_check c = rw (same_refusal c.from_residual.ensures.1 refl) (record { value = count_refused _ (refused_before _ _ _ _ _ _ c.in_err-vertices_check.ensures); out_after = refl; work_unchanged = refl })

pub returns : goal.returns
returns c =
    let told = c.in_ok-vertices_check.ensures in
    let n = length (breaks_of c.args.v c.args.outline.now) in
    record { value = c.compute.ensures.value ∙ ap (λ (a : Result ⊤ Refusal). value_if a n) (room_checked _ _ _ (length c.args.out.now) n told); out_after = c.compute.ensures.out_after; work_unchanged = refl }
