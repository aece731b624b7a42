-- `signed` meets its contract. Assumes nothing.
use mathlib.Core.Path.{refl}
use Rattle.ql.proofs.signed.Goals as goal

pub returns-then-g : goal.returns-then-g
returns-then-g c = rw c.if-g.true refl

pub returns-else-g : goal.returns-else-g
returns-else-g c = rw c.if-g.false refl
