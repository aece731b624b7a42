-- `number::powi` meets its contract. Assumes nothing.
use borrow.Author.Rules.{rules}
use native.Mathlib.Omega.{arith}
use mathlib.Core.Path.{◌≡◌, refl}
use Rattle.number.specs.Power.{power_turns, power_of, power_turn, power_done}
use Rattle.number.proofs.powi.Given as goal

abbrev pub invariant-loop-e : goal.invariant-loop-e
invariant-loop-e l = power_turns l.e l.r l.b l.e ≡ power_of l.base l.exponent

abbrev pub decreases-loop-e : goal.decreases-loop-e
decreases-loop-e l = l.e
