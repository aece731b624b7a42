-- `gauss::correct` meets its contract. Assumes nothing.
use Rattle.quadrature.specs.Gauss.{corrected}
use Rattle.number.specs.Whole.{whole}
use native.Mathlib.Omega.{arith}
use mathlib.Core.Path.{refl}
use borrow.Author.Rules.{rules}
use Rattle.quadrature.proofs.gauss.correct.Goals as goal

pub int_to_float-dp : goal.int_to_float-dp
int_to_float-dp c = whole _ (omega arith)

pub returns : goal.returns
unfolding corrected
returns c = rw c.magnitude.ensures refl
