-- `number::long` meets its contract. Assumes nothing.
use borrow.Author.Rules.{rules}
use Rattle.number.specs.Hypot.{long_of}
use Rattle.number.proofs.long.Goals as goal

pub returns-then-g : goal.returns-then-g
unfolding long_of
returns-then-g c = simp c.if-g.true

pub returns : goal.returns
unfolding long_of
returns c = simp (c.if-g.false, c.root.ensures)
