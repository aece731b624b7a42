-- `rows::second` meets its contract. Assumes nothing.
use mathlib.Core.Path.{refl}
use Rattle.legendre.proofs.rows.second.Goals as goal

pub returns : goal.returns
returns c = refl
