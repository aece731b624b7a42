-- `kronecker` meets its contract. Assumes nothing.
use borrow.Author.Tests.{eq-eqb, ne_eqb}
use Rattle.matrix.specs.Matrix.{kronecker}
use Rattle.matrix.proofs.kronecker.Goals as goal

pub returns-then-i-j : goal.returns-then-i-j
unfolding kronecker
returns-then-i-j c = simp (eq-eqb _ _ c.if-i-j.true)

pub returns-else-i-j : goal.returns-else-i-j
unfolding kronecker
returns-else-i-j c = simp (ne_eqb _ _ c.if-i-j.false)
