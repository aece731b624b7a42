-- `basin_average` meets its contract. Assumes nothing.
use Rattle.lengths.specs.Told.{too_large, small_enough, size_refused, told_past, promised}
use Rattle.lengths.specs.Lengths.{average_lengths}
use native.Mathlib.Omega.{arith}
use Rattle.lengths.proofs.basin_average.Goals as goal
use Rattle.refusal.specs.Numbers.{done_then, refused_then}

pub returns-then-kmax-gt-MAX_DEGREE : goal.returns-then-kmax-gt-MAX_DEGREE
returns-then-kmax-gt-MAX_DEGREE c =
    let all = promised (size_refused (refused_then _ _ (too_large (omega arith)))) in
    record { value = all.0; lengths_after = all.1 }

pub returns-then-nmax-gt-MAX_DEGREE : goal.returns-then-nmax-gt-MAX_DEGREE
returns-then-nmax-gt-MAX_DEGREE c =
    let all = promised (size_refused (done_then (small_enough (omega arith)) (too_large (omega arith)))) in
    record { value = all.0; lengths_after = all.1 }

pub returns : goal.returns
unfolding average_lengths
returns c =
    let all = promised (told_past (done_then (small_enough (omega arith)) (small_enough (omega arith))) (cc) c.tell.ensures) in
    record { value = all.0; lengths_after = all.1 }
