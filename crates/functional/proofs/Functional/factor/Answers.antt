-- `Functional::factor` meets its contract: each way through its checks has its law. Assumes nothing.
use native.Mathlib.Omega.{arith}
use borrow.Author.Rules.{rules}
use Rattle.functional.specs.Factor.{factor_size, factor_love, factor-value}
use Rattle.functional.proofs.Functional.factor.Goals as goal

pub returns-then-n-gt-MAX_DEGREE : goal.returns-then-n-gt-MAX_DEGREE
returns-then-n-gt-MAX_DEGREE c = factor_size _ _ _ _ _ _ (omega arith)

pub returns-then-lacks_love : goal.returns-then-lacks_love
returns-then-lacks_love c = factor_love _ _ _ _ _ _ (omega arith) (cc)

pub returns : goal.returns
returns c = factor-value _ _ _ _ _ _ (omega arith) (cc) c.degree_factor.ensures
