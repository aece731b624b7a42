-- `Partials::gravity_neu` meets its contract: the centrifugal term added to the acceleration. Assumes nothing.
use mathlib.Core.Path.{refl}
use Rattle.local.proofs.Partials.gravity_neu.Goals as goal

pub returns : goal.returns
returns c = rw c.acceleration_neu-g.ensures refl
