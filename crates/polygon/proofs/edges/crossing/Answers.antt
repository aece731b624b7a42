-- `crossing` meets its contract. Assumes nothing.
use Rattle.polygon.specs.Outline.{crossing}
use Rattle.polygon.proofs.edges.crossing.Goals as goal

pub returns : goal.returns
unfolding crossing
returns c = cc
