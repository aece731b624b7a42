-- `straddles` meets its contract: it is the definition, operation by operation. Assumes nothing.
use mathlib.Core.Path.{refl}
use Rattle.polygon.proofs.edges.straddles.Goals as goal

pub returns : goal.returns
returns c = refl
