-- `vector::less_alpha_at` meets its contract. Assumes nothing.
use mathlib.Core.Path.{refl}
use borrow.Author.Rules.{rules}
use borrow.Author.Tests.{le-leb, lt-leb, eq-eqb, ne_eqb}
use Rattle.householder.specs.Reduction.{less_alpha_at}
use Rattle.householder.proofs.vector.less_alpha_at.Goals as goal

pub returns-then-i-k : goal.returns-then-i-k
unfolding less_alpha_at
returns-then-i-k c = rw (le-leb _ _ c.if-i-k.true) refl

pub returns-then-i-k-2 : goal.returns-then-i-k-2
unfolding less_alpha_at
returns-then-i-k-2 c = rw (lt-leb _ _ c.if-i-k.false, eq-eqb _ _ c.if-i-k-2.true, c.alpha.ensures) refl

pub returns : goal.returns
unfolding less_alpha_at
returns c = rw (lt-leb _ _ c.if-i-k.false, ne_eqb _ _ c.if-i-k-2.false) refl
