-- `crossing_of` meets its contract: it is the definition, operation by operation. Assumes nothing.
use mathlib.Core.Path.{refl}
use Rattle.polygon.proofs.edges.crossing_of.Goals as goal

pub returns : goal.returns
returns c = refl
