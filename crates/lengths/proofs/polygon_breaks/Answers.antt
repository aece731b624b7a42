-- `polygon_breaks` meets its contract. Assumes nothing.
use Rattle.lengths.specs.Told.{too_large, small_enough, size_refused, told_past, promised}
use Rattle.lengths.specs.Lengths.{breaks_told}
use native.Mathlib.Omega.{arith}
use borrow.Author.Rules.{rules}
use Rattle.lengths.proofs.polygon_breaks.Goals as goal

pub returns-then-vertices-gt-MAX_VERTICES : goal.returns-then-vertices-gt-MAX_VERTICES
returns-then-vertices-gt-MAX_VERTICES c =
    let all = promised (size_refused (too_large (omega arith))) in
    record { value = all.0; lengths_after = all.1 }

pub returns : goal.returns
returns c =
    let all = promised (told_past (small_enough (omega arith)) (breaks_told _) c.tell.ensures) in
    record { value = all.0; lengths_after = all.1 }
