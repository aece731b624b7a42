-- `leaves::point` meets its contract. Assumes nothing.
use Rattle.lengths.specs.Told.{too_large, small_enough, size_refused, told_past}
use Rattle.lengths.specs.Lengths.{point_lengths}
use native.Mathlib.Nat.{mul-le-mul_right}
use native.Mathlib.Omega.{arith}
use borrow.Author.Rules.{rules}
use Rattle.lengths.proofs.leaves.point.Goals as goal

pub returns-then-nmax-gt-MAX_DEGREE : goal.returns-then-nmax-gt-MAX_DEGREE
returns-then-nmax-gt-MAX_DEGREE c = size_refused (too_large (omega arith))

pub overflow_mul-told : goal.overflow_mul-told
overflow_mul-told c = omega (arith, mul-le-mul_right c.entries-size.result c.requires)

pub returns : goal.returns
unfolding point_lengths
returns c = told_past (small_enough (omega arith)) (cc) c.tell.ensures
