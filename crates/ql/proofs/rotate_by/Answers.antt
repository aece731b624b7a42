-- `rotate_by` meets its contract: one law for each way through its test. Assumes nothing.
use Rattle.ql.specs.QlLaws.{breaks, turns}
use borrow.Author.Rules.{rules}
use Rattle.ql.proofs.rotate_by.Goals as goal

pub returns-then-r : goal.returns-then-r
returns-then-r c = breaks _ _ _ _ _ _ _ _ _ _ c.requires.fact_1 c.if-r.true

pub returns : goal.returns
returns c =
    turns _ _ _ _ _ _ _ _ _ _ c.requires.fact_1 c.if-r.false
    c.next-y.ensures c.rotate_rows.ensures
