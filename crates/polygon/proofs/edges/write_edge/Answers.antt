-- `write_edge` meets its contract. Assumes nothing.
use Rattle.polygon.specs.PickedLaws.{stored, passed}
use Rattle.polygon.proofs.edges.write_edge.Goals as goal

pub returns-then-crosses : goal.returns-then-crosses
returns-then-crosses c = stored _ _ _ _ c.crosses.ensures c.if-crosses.true c.crossing.ensures

pub returns : goal.returns
returns c = passed _ _ _ _ c.crosses.ensures c.if-crosses.false
