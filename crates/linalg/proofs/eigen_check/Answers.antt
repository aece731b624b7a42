-- `eigen_check` meets its contract: each way through it has its law. Assumes nothing.
use native.Mathlib.Omega.{arith}
use native.Mathlib.Nat.{mul-le-mul_right}
use borrow.Author.Rules.{rules}
use Rattle.linalg.specs.Checks.{too_large, not_square, short_work, short_values, short_vectors, all_passed}
use Rattle.linalg.proofs.eigen_check.Goals as goal

pub returns-then-n-gt-MAX_ROWS : goal.returns-then-n-gt-MAX_ROWS
returns-then-n-gt-MAX_ROWS c = too_large _ _ _ _ _ (omega arith)

pub overflow_mul-size : goal.overflow_mul-size
overflow_mul-size c = omega (arith, mul-le-mul_right c.args.n c.if-n-gt-MAX_ROWS.false)

pub returns-then-a-size : goal.returns-then-a-size
returns-then-a-size c = not_square _ _ _ _ _ (omega arith) (λ e. omega arith)

pub overflow_add-size : goal.overflow_add-size
overflow_add-size c = omega (arith, mul-le-mul_right c.args.n c.if-n-gt-MAX_ROWS.false)

pub returns-then-work-size : goal.returns-then-work-size
returns-then-work-size c = short_work _ _ _ _ _ (omega arith) (omega arith) (omega arith)

pub returns-then-values-n : goal.returns-then-values-n
returns-then-values-n c = short_values _ _ _ _ _ (omega arith) (omega arith) (omega arith) (omega arith)

pub returns-then-vectors-size : goal.returns-then-vectors-size
returns-then-vectors-size c = short_vectors _ _ _ _ _ (omega arith) (omega arith) (omega arith) (omega arith) (omega arith)

pub returns : goal.returns
returns c = all_passed _ _ _ _ _ (omega arith) (omega arith) (omega arith) (omega arith) (omega arith)
