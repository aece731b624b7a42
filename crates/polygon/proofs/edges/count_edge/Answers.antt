-- `count_edge` meets its contract. Assumes nothing.
use Rattle.polygon.specs.PickedLaws.{counted_more, counted_same}
use Rattle.polygon.proofs.edges.count_edge.Goals as goal

pub returns-then-crosses : goal.returns-then-crosses
returns-then-crosses c = counted_more _ _ _ _ c.crosses.ensures c.if-crosses.true

pub returns : goal.returns
returns c = counted_same _ _ _ _ c.crosses.ensures c.if-crosses.false
