-- `next` meets its contract. Assumes nothing.
use Rattle.ql.specs.Ql.{next}
use mathlib.Core.Path.{refl}
use Rattle.ql.proofs.next.Goals as goal

pub returns : goal.returns
unfolding next
returns c = refl
