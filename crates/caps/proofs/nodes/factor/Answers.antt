-- `factor` meets its contract. Assumes nothing.
use Rattle.caps.specs.Caps.{cap_factor}
use borrow.Author.Tests.{eq-eqb, ne_eqb}
use mathlib.Core.Path.{refl}
use Rattle.caps.proofs.nodes.factor.Goals as goal

pub returns-then-m-eq0 : goal.returns-then-m-eq0
unfolding cap_factor
returns-then-m-eq0 c = rw (eq-eqb _ _ c.if-m-eq0.true) refl

pub returns : goal.returns
unfolding cap_factor
returns c = rw (ne_eqb _ _ c.if-m-eq0.false) refl
