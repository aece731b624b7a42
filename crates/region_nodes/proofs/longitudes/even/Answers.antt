-- `even` meets its contract: at the size of the difference. Assumes nothing.
use Rattle.region_nodes.specs.NodeLaws.{even_less, even_more}
use borrow.Author.Rules.{rules}
use Rattle.region_nodes.proofs.longitudes.even.Goals as goal

pub returns-then-a-b : goal.returns-then-a-b
returns-then-a-b c = even_less _ _ _ _ c.if-a-b.true

pub returns : goal.returns
returns c = even_more _ _ _ _ c.if-a-b.false
