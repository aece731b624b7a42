-- `verdict` meets its contract. Assumes nothing.
use Rattle.model_file.specs.Answers.{refused_by_head, verdict_head, verdict_body}
use Rattle.refusal.proofs.Exits.{same_refusal}
use Rattle.model_file.proofs.verdict.Goals as goal

pub returns-in_err-h : goal.returns-in_err-h
returns-in_err-h c = same_refusal c.from_residual.ensures.1 (verdict_head _ _ (refused_by_head _ _ c.head.ensures _ c.in_err-h.was))

pub returns : goal.returns
returns c =
    let head = c.head in
    let table_size_lem = c.table_size in
    let head_size_lem = c.head_size in
    verdict_body _ _ head.ensures _ c.in_ok-h.was _ table_size_lem.ensures _ head_size_lem.ensures _ c.check_body.ensures
