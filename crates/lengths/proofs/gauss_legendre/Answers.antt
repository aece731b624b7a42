-- `gauss_legendre` meets its contract. Assumes nothing.
use Rattle.lengths.specs.Told.{too_large, small_enough, size_refused, told_past, promised}
use Rattle.lengths.specs.Lengths.{gauss_told}
use native.Mathlib.Omega.{arith}
use borrow.Author.Rules.{rules}
use Rattle.lengths.proofs.gauss_legendre.Goals as goal

pub returns-then-n-gt-MAX_NODES : goal.returns-then-n-gt-MAX_NODES
returns-then-n-gt-MAX_NODES c =
    let all = promised (size_refused (too_large (omega arith))) in
    record { value = all.0; lengths_after = all.1 }

pub returns : goal.returns
returns c =
    let all = promised (told_past (small_enough (omega arith)) (gauss_told _ (omega arith)) c.tell.ensures) in
    record { value = all.0; lengths_after = all.1 }
