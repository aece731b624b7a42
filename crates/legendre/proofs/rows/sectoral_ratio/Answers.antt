-- `rows::sectoral_ratio` meets its contract. Assumes nothing.
use native.Mathlib.Omega.{arith}
use borrow.Author.Rules.{rules}
use borrow.Author.Tests.{eq-eqb, ne_eqb}
use Rattle.recursion.specs.Recursion.{sectoral_ratio}
use Rattle.number.specs.Whole.{whole}
use Rattle.legendre.proofs.rows.sectoral_ratio.Goals as goal

pub int_to_float-result : goal.int_to_float-result
int_to_float-result c = whole _ (omega arith)

pub int_to_float-result-else-m-eq1 : goal.int_to_float-result-else-m-eq1
int_to_float-result-else-m-eq1 c = whole _ (omega arith)

pub returns-then-m-eq1 : goal.returns-then-m-eq1
unfolding sectoral_ratio
returns-then-m-eq1 c = simp (eq-eqb _ _ c.if-m-eq1.true)

pub returns-else-m-eq1 : goal.returns-else-m-eq1
unfolding sectoral_ratio
returns-else-m-eq1 c = simp (ne_eqb _ _ c.if-m-eq1.false)
