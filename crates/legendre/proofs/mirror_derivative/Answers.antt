-- `mirror_derivative` meets its contract: the signs turn by n - m + 1. Assumes nothing.
use borrow.Author.Rules.{rules}
use Rattle.legendre.proofs.mirror_derivative.Goals as goal

pub returns : goal.returns
returns c = c.mirror_by.ensures
