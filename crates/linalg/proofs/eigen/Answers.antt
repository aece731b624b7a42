-- `eigen` meets its contract: each size has its method. Assumes nothing.
use native.Mathlib.Omega.{arith}
use borrow.Author.Rules.{rules}
use Rattle.linalg.specs.EigenLaws.{large_values, large_vectors, large_convergence, small_values, small_vectors, small-convergence}
use Rattle.linalg.proofs.eigen.Goals as goal

pub returns-then-n-gt32 : goal.returns-then-n-gt32
returns-then-n-gt32 c =
    let a = c.args in
    let made = c.reduce_and_iterate.ensures in record { filled = large_values a.n a.a.now (omega arith) made.filled; filled_2 = large_vectors a.n a.a.now (omega arith) made.filled_2; kept = made.kept; value = large_convergence a.n a.a.now (omega arith) made.value }

pub returns : goal.returns
returns c =
    let a = c.args in
    let made = c.solve.ensures in record { filled = small_values a.n a.a.now (omega arith) made.values_after (omega arith); filled_2 = small_vectors a.n a.a.now (omega arith) made.vectors_after (omega arith); kept = made.kept; value = small-convergence a.n a.a.now (omega arith) made.sweeps_value_1 made.sweeps_value_2 }
