-- `close` meets its contract. Assumes nothing.
use Rattle.ql.specs.QlLaws.{closed_whole}
use borrow.Author.Rules.{rules}
use Rattle.ql.proofs.close.Goals as goal

pub returns : goal.returns
returns c = closed_whole _ _ _ _ _
