use Rattle.variance_report.proofs.Texts.{digit_low, digit_high}
use native.Mathlib.Omega.{arith}
use Rattle.variance_report.proofs.hex_digit.Goals as goal

pub returns-then-d-lt10 : goal.returns-then-d-lt10
returns-then-d-lt10 c = digit_low _ (omega arith)

pub returns-else-d-lt10 : goal.returns-else-d-lt10
returns-else-d-lt10 c = digit_high _ (omega arith)
