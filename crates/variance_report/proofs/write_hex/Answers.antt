use Rattle.variance_report.proofs.Texts.{hex_turn, hex_end}
use native.Mathlib.Omega.{arith}
use mathlib.Core.Path.{refl, ◌∙◌}
use Rattle.variance_report.proofs.write_hex.Goals as goal

pub loop-k-init : goal.loop-k-init
loop-k-init c = refl

pub loop-k-preserved : goal.loop-k-preserved
loop-k-preserved c = hex_turn _ _ _ _ _ (omega arith) c.hex_digit.ensures ∙ c.loop-k.invariant

pub returns : goal.returns
returns c = hex_end _ _ _ _ (omega arith) ∙ c.loop-k.invariant
