-- `analysis` meets its contract: past the checks the coefficients are worked out. Assumes nothing.
use Rattle.analysis.specs.Checks.{accepted, check_found}
use Rattle.coefficients.specs.Model.{model_made}
use mathlib.Core.Path.{sym, ◌∙◌}
use Rattle.analysis.proofs.analysis.Goals as goal

pub compute-requires : goal.compute-requires
compute-requires c =
    accepted _ _ _ _ _ _ _ _ _ (sym c.in_ok-analysis_check.was ∙ c.analysis_check.ensures)

pub returns : goal.returns
returns c =
    let analysis-check = c.analysis_check in
    let lacks-love = c.lacks_love-lacks in
    let m = c.compute.ensures in
    let answer = check_found _ _ _ _ _ _ _ _ _ (sym c.in_ok-analysis_check.was ∙ analysis-check.ensures) lacks-love.ensures in
    record { value = model_made _ answer; c_after = m.of_c.is; s_after = m.of_s.is; work_unchanged = m.rest; work_len_unchanged = m.long }
