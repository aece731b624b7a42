-- `vector::alpha` meets its contract. Assumes nothing.
use mathlib.Core.Path.{refl}
use Rattle.householder.proofs.vector.alpha.Goals as goal

pub returns-then-x0 : goal.returns-then-x0
returns-then-x0 c = rw c.if-x0.true refl

pub returns-else-x0 : goal.returns-else-x0
returns-else-x0 c = rw c.if-x0.false refl
