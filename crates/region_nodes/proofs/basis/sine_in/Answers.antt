-- `sine_in` meets its contract: place 0 is no sine, and later the even places are. Assumes nothing.
use Rattle.region_nodes.specs.NodeLaws.{sine_first, sine_later}
use Rattle.region_nodes.proofs.basis.sine_in.Goals as goal

pub returns-then-r-eq0 : goal.returns-then-r-eq0
returns-then-r-eq0 c = sine_first _ c.if-r-eq0.true

pub returns : goal.returns
returns c = sine_later _ c.if-r-eq0.false
