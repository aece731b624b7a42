-- `leaves::tables` meets its contract. Assumes nothing.
use Rattle.lengths.specs.Told.{too_large, small_enough, size_refused, told_past}
use Rattle.lengths.specs.Lengths.{tables_told}
use native.Mathlib.Omega.{arith}
use mathlib.Core.Path.{sym}
use lib.Seq.{length-take-le}
use borrow.Author.Rules.{rules}
use Rattle.lengths.proofs.leaves.tables.Goals as goal

pub returns-then-nmax-gt-MAX_DEGREE : goal.returns-then-nmax-gt-MAX_DEGREE
returns-then-nmax-gt-MAX_DEGREE c = size_refused (too_large (omega arith))

pub slice_bounds-tell-end : goal.slice_bounds-tell-end
slice_bounds-tell-end c = sym (length-take-le _ _ (omega arith))

pub returns : goal.returns
returns c =
    let entries = c.entries-size in
    told_past (small_enough (omega arith)) (tables_told _ _ (omega arith) entries.ensures.is) c.tell.ensures
