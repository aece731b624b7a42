-- `leaves::matrices` meets its contract. Assumes nothing.
use Rattle.lengths.specs.Told.{too_large, small_enough, size_refused, told_past}
use Rattle.lengths.specs.Lengths.{eigen_lengths}
use native.Mathlib.Omega.{arith}
use borrow.Author.Rules.{rules}
use Rattle.lengths.proofs.leaves.matrices.Goals as goal

pub returns-then-n-gt-MAX_ROWS : goal.returns-then-n-gt-MAX_ROWS
returns-then-n-gt-MAX_ROWS c = size_refused (too_large (omega arith))

pub returns : goal.returns
unfolding eigen_lengths
returns c = told_past (small_enough (omega arith)) (cc) c.tell.ensures
