-- `ratio` meets its contract. Assumes nothing.
use Rattle.ql.specs.Ql.{ratio}
use mathlib.Core.Path.{refl}
use borrow.Author.Rules.{rules}
use Rattle.ql.proofs.ratio.Goals as goal

pub returns : goal.returns
unfolding ratio
returns c = refl
