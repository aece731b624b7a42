-- `gauss::lower_node` meets its contract. Assumes nothing.
use mathlib.Core.Path.{refl}
use borrow.Author.Tests.{eq-eqb, ne_eqb}
use mathlib.Core.Path.{refl}
use borrow.Author.Rules.{rules}
use Rattle.quadrature.proofs.gauss.lower_node.Goals as goal

pub returns-then-j-n : goal.returns-then-j-n
returns-then-j-n c = rw (eq-eqb _ _ c.if-j-n.true) refl

pub returns-else-j-n : goal.returns-else-j-n
returns-else-j-n c = rw (ne_eqb _ _ c.if-j-n.false) refl
