-- `geopotential_analysis` meets its contract. Assumes nothing.
use Rattle.geopotential.specs.Analyses.{analysis_answer, analysis_unknown, analysis_known}
use Rattle.geopotential.specs.Functionals.{functional_decoded}
use Rattle.geopotential.proofs.analyses.geopotential_analysis.Goals as goal

pub returns-in_default : goal.returns-in_default
returns-in_default c =
    let all = analysis_unknown _ _ _ _ _ _ _ _ _ _ _ _ _ _ _ c.in_default.ensures.1 in
    record { value = all.0; c_after = all.1.0; s_after = all.1.1.0; work_unchanged = all.1.1.1.0; work_len_unchanged = all.1.1.1.1 }

pub returns : goal.returns
unfolding analysis_answer
returns c =
    let (h, p) = functional_decoded c.in-Ok.ensures in
    let f = c.analysis.ensures in
    let all = analysis_known _ _ _ _ _ _ _ _ _ _ _ _ _ _ _ _ _ h p f.value
    c.result_number.ensures f.c_after f.s_after f.work_unchanged f.work_len_unchanged in
    record { value = all.0; c_after = all.1.0; s_after = all.1.1.0; work_unchanged = all.1.1.1.0; work_len_unchanged = all.1.1.1.1 }
