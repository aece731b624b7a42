-- `number::powi` meets its contract. Assumes nothing.
use borrow.Author.Rules.{rules}
use native.Mathlib.Omega.{arith}
use mathlib.Core.Path.{◌≡◌, refl}
use Rattle.number.specs.Power.{power_turns, power_of, power_turn, power_done}
use Rattle.number.proofs.powi.Goals as goal

pub loop-e-init : goal.loop-e-init
unfolding power_of
loop-e-init c = refl

pub loop-e-preserved : goal.loop-e-preserved
loop-e-preserved c = cc (power_turn c.loop-e.r c.loop-e.b c.loop-e.e (omega arith))

pub returns : goal.returns
returns c = cc (power_done c.loop-e.r c.loop-e.b c.loop-e.e (omega arith))
