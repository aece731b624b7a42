-- `number::number_of_bits` meets its contract. Assumes nothing.
use borrow.Author.Rules.{rules}
use native.Mathlib.Omega.{arith}
use mathlib.Core.Path.{sym, ◌∙◌}
use Rattle.number.specs.Patterns.{nan_pattern, number_pattern, zero_by_zero}
use Rattle.number.proofs.number_of_bits.Goals as goal

pub float_from_bits-result : goal.float_from_bits-result
float_from_bits-result c = number_pattern c.args.bits (omega arith)

pub returns-then-bits-gt9218868437227405312 : goal.returns-then-bits-gt9218868437227405312
returns-then-bits-gt9218868437227405312 c = zero_by_zero ∙ sym (nan_pattern c.args.bits (omega arith))
