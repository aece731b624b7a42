-- `number::magnitude` meets its contract. Assumes nothing.
use lib.Dec.{T}
use lib.Ieee.{binary64, fits}
use mathlib.Core.Path.{sym, subst}
use Rattle.number.specs.Patterns.{self_number, no_nan, magnitude_nan, masked, masked_number}
use Rattle.number.proofs.magnitude.Goals as goal

pub float_to_bits-result : goal.float_to_bits-result
float_to_bits-result c = no_nan _ (self_number _ c.if-x.false)

pub float_from_bits-result : goal.float_from_bits-result
float_from_bits-result c = masked_number _ (subst T (sym c.well_formed.0.1) tt) (self_number _ c.if-x.false)

pub returns-then-x : goal.returns-then-x
returns-then-x c = magnitude_nan _ c.if-x.true

pub returns-else-x : goal.returns-else-x
returns-else-x c = masked _ (subst T (sym c.well_formed.0.1) tt) (self_number _ c.if-x.false)
