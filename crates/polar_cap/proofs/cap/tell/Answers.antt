-- `cap::tell` meets its contract: a count is small, and so its number is exact. Assumes nothing.
use native.Mathlib.Omega.{arith}
use lib.ListN.{length-set}
use mathlib.Core.Path.{◌∙◌}
use Rattle.linalg.specs.Solution.{settled_is_byte}
use Rattle.number.specs.Whole.{whole}
use Rattle.polar_cap.specs.CapOrder.{told_stored}
use Rattle.polar_cap.proofs.cap.tell.Goals as goal

pub int_to_float-settled-2 : goal.int_to_float-settled-2
int_to_float-settled-2 c = whole _ (omega arith)

pub bounds-settled-at-2 : goal.bounds-settled-at-2
bounds-settled-at-2 c = simp length-set (omega arith)

pub returns : goal.returns
returns c =
    let a = c.args in
    told_stored a.ended a.settled.now (c.from.ensures ∙ settled_is_byte _) (omega arith) (omega arith)
