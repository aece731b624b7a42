-- `within::eigen_within` meets its contract: each size has its method. Assumes nothing.
use native.Mathlib.Omega.{arith}
use borrow.Author.Rules.{rules}
use Rattle.matrix.specs.Layout.{plain}
use Rattle.linalg.specs.EigenLaws.{large_values, large_convergence}
use Rattle.linalg.specs.Within.{large_behind}
use Rattle.linalg.proofs.within.eigen_within.Goals as goal

pub returns-then-n-gt32 : goal.returns-then-n-gt32
returns-then-n-gt32 c =
    let a = c.args in
    let w = plain a.n a.w.now in
    let made = c.reduce_and_iterate_within.ensures in record { fact_1 = large_values a.n w (omega arith) made.fact_1; fact_2 = large_behind a.n w (omega arith) made.fact_2; fact_3 = made.fact_3; fact_4 = large_convergence a.n w (omega arith) made.fact_4 }
