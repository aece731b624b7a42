-- `odd` meets its contract: at the size of the difference, with the sign turned where it is negative. Assumes nothing.
use Rattle.region_nodes.specs.NodeLaws.{odd_less, odd_more}
use borrow.Author.Rules.{rules}
use Rattle.region_nodes.proofs.longitudes.odd.Goals as goal

pub returns-then-a-b : goal.returns-then-a-b
returns-then-a-b c = odd_less _ _ _ _ c.if-a-b.true

pub returns : goal.returns
returns c = odd_more _ _ _ _ c.if-a-b.false
