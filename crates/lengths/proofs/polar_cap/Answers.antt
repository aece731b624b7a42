-- `polar_cap` meets its contract. Assumes nothing.
use Rattle.lengths.specs.Told.{too_large, small_enough, size_refused, told_past, promised}
use Rattle.lengths.specs.Lengths.{cap_lengths}
use native.Mathlib.Omega.{arith}
use borrow.Author.Rules.{rules}
use Rattle.lengths.proofs.polar_cap.Goals as goal

pub returns-then-lmax-gt-MAX_CAP : goal.returns-then-lmax-gt-MAX_CAP
returns-then-lmax-gt-MAX_CAP c =
    let all = promised (size_refused (too_large (omega arith))) in
    record { value = all.0; lengths_after = all.1 }

pub returns : goal.returns
unfolding cap_lengths
returns c =
    let all = promised (told_past (small_enough (omega arith)) (cc) c.tell.ensures) in
    record { value = all.0; lengths_after = all.1 }
