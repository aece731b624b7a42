-- `degree_variances` meets its contract. Assumes nothing.
use Rattle.lengths.specs.Told.{too_large, small_enough, size_refused, told_past, promised}
use Rattle.lengths.specs.Lengths.{variances_lengths}
use native.Mathlib.Omega.{arith}
use borrow.Author.Rules.{rules}
use Rattle.lengths.proofs.degree_variances.Goals as goal

pub returns-then-nmax-gt-MAX_DEGREE : goal.returns-then-nmax-gt-MAX_DEGREE
returns-then-nmax-gt-MAX_DEGREE c =
    let all = promised (size_refused (too_large (omega arith))) in
    record { value = all.0; lengths_after = all.1 }

pub returns : goal.returns
unfolding variances_lengths
returns c =
    let all = promised (told_past (small_enough (omega arith)) (cc) c.tell.ensures) in
    record { value = all.0; lengths_after = all.1 }
