-- `vector::norm` meets its contract. Assumes nothing.
use mathlib.Core.Path.{ap, ◌∙◌}
use borrow.Author.Rules.{rules}
use Rattle.number.specs.Root.{root_of}
use Rattle.householder.specs.Reduction.{norm}
use Rattle.householder.proofs.vector.norm.Goals as goal

pub returns : goal.returns
unfolding norm
returns c = c.root.ensures ∙ ap root_of c.dot.ensures
