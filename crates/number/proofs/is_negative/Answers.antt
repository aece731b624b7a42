-- `number::is_negative` meets its contract. Assumes nothing.
use lib.Dec.{T}
use lib.Ieee.{binary64, fits}
use mathlib.Core.Path.{sym, subst}
use Rattle.number.specs.Sign.{negative_nan}
use Rattle.number.specs.Patterns.{differs_nan, self_number, no_nan, bits_negative}
use Rattle.number.proofs.is_negative.Goals as goal

pub float_to_bits-result : goal.float_to_bits-result
float_to_bits-result c = no_nan _ (self_number _ c.if-x.false)

pub returns-then-x : goal.returns-then-x
returns-then-x c = negative_nan _ (differs_nan _ c.if-x.true)

pub returns-else-x : goal.returns-else-x
returns-else-x c = bits_negative _ (subst T (sym c.well_formed.0.1) tt) (self_number _ c.if-x.false)
