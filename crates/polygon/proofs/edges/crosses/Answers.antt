-- `crosses` meets its contract. Assumes nothing.
use Rattle.polygon.specs.Outline.{crosses}
use Rattle.polygon.proofs.edges.crosses.Goals as goal

pub returns : goal.returns
unfolding crosses
returns c = cc
