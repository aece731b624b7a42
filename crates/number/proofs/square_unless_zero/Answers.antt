-- `number::square_unless_zero` meets its contract. Assumes nothing.
use borrow.Author.Tests.{eq-eqb, ne_eqb}
use Rattle.number.specs.Power.{square_unless_zero}
use Rattle.number.proofs.square_unless_zero.Goals as goal

pub returns-then-e-eq0 : goal.returns-then-e-eq0
unfolding square_unless_zero
returns-then-e-eq0 c = simp (eq-eqb _ _ c.if-e-eq0.true)

pub returns-else-e-eq0 : goal.returns-else-e-eq0
unfolding square_unless_zero
returns-else-e-eq0 c = simp (ne_eqb _ _ c.if-e-eq0.false)
