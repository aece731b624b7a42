-- `SecondPartials::tensor_neu` meets its contract: what is worked out is the definition. Assumes nothing.
use mathlib.Core.Path.{refl}
use Rattle.local.proofs.SecondPartials.tensor_neu.Goals as goal

pub returns : goal.returns
returns c = refl
