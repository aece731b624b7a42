-- `leaves::points` meets its contract. Assumes nothing.
use Rattle.lengths.specs.Told.{too_large, small_enough, size_refused, told_past}
use Rattle.lengths.specs.Lengths.{points_lengths}
use native.Mathlib.Nat.{mul-le-mul_right}
use native.Mathlib.Omega.{arith}
use Rattle.lengths.proofs.leaves.points.Goals as goal
use Rattle.refusal.specs.Numbers.{done_then, refused_then}

pub returns-then-points-gt-MAX_POINTS : goal.returns-then-points-gt-MAX_POINTS
returns-then-points-gt-MAX_POINTS c = size_refused (refused_then _ _ (too_large (omega arith)))

pub returns-then-nmax-gt-MAX_DEGREE : goal.returns-then-nmax-gt-MAX_DEGREE
returns-then-nmax-gt-MAX_DEGREE c = size_refused (done_then (small_enough (omega arith)) (too_large (omega arith)))

pub overflow_mul-told : goal.overflow_mul-told
overflow_mul-told c = omega (arith, mul-le-mul_right c.entries-size.result c.requires.fact_1)

pub overflow_mul-told-2 : goal.overflow_mul-told-2
overflow_mul-told-2 c = omega (arith, mul-le-mul_right c.args.points c.requires.fact_2)

pub returns : goal.returns
unfolding points_lengths
returns c = told_past (done_then (small_enough (omega arith)) (small_enough (omega arith))) (cc) c.tell.ensures
