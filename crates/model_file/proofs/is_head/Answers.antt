-- `is_head` meets its contract. Assumes nothing.
use borrow.Author.Tests.{eq-eqb, ne_eqb}
use Rattle.model_file.proofs.is_head.Goals as goal

pub returns-then-kind-eq1 : goal.returns-then-kind-eq1
returns-then-kind-eq1 c = simp (eq-eqb c.args.kind 1 c.if-kind-eq1.true)

pub returns : goal.returns
returns c = simp (ne_eqb c.args.kind 1 c.if-kind-eq1.false)
