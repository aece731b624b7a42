-- `number::bits_of_number` meets its contract. Assumes nothing.
use borrow.Author.Rules.{rules}
use mathlib.Core.Path.{sym, ap, ◌∙◌}
use lib.Ieee.{binary64, to_bits}
use Rattle.number.specs.Patterns.{differs_nan, self_number, no_nan, nan_bits_lem}
use Rattle.number.proofs.bits_of_number.Goals as goal

pub float_to_bits-result : goal.float_to_bits-result
float_to_bits-result c = no_nan _ (self_number _ c.if-x.false)

pub returns-then-x : goal.returns-then-x
returns-then-x c = sym (ap (to_bits binary64) (differs_nan _ c.if-x.true) ∙ nan_bits_lem)
