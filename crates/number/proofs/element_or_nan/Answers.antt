-- `element_or_nan` meets its contract: past the end of the list stands 0 / 0. Assumes nothing.
use mathlib.Core.Path.{sym, ◌∙◌}
use lib.ListN.{get_or-eq_default}
use lib.Ieee.{nan}
use borrow.Author.Rules.{rules}
use Rattle.number.specs.Patterns.{zero_by_zero}
use Rattle.number.proofs.element_or_nan.Goals as goal

pub returns-else-k-list : goal.returns-else-k-list
returns-else-k-list c = zero_by_zero ∙ sym (get_or-eq_default c.args.list.now nan c.if-k-list.false)
