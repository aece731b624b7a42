-- `number::signum` meets its contract. Assumes nothing.
use borrow.Author.Rules.{rules}
use mathlib.Core.Path.{sym, ◌∙◌}
use mathlib.Core.Bool.{true, false}
use Rattle.number.specs.Sign.{signum_nan, signum_is}
use Rattle.number.specs.Patterns.{differs_nan, self_number}
use Rattle.number.proofs.signum.Goals as goal

pub returns-then-x : goal.returns-then-x
returns-then-x c = signum_nan _ (differs_nan _ c.if-x.true)

pub returns-then-is_negative : goal.returns-then-is_negative
returns-then-is_negative c = signum_is _ (self_number _ c.if-x.false) true (sym c.is_negative.ensures ∙ c.if-is_negative.true)

pub returns-else-is_negative : goal.returns-else-is_negative
returns-else-is_negative c = signum_is _ (self_number _ c.if-x.false) false (sym c.is_negative.ensures ∙ c.if-is_negative.false)
