-- Document 01's numbers of the functionals, in the order of the enum. Assumes nothing.
use Rattle.std.specs.Prelude.{◌≡◌, ℕ, ◌≤◌, ◌<◌, Result, MatchResult}
use Rattle.std.proofs.Common.{arith}
use Rattle.functional.specs.declared.Functional.{Functional}
use Rattle.functional.specs.declared.Functional.TheVariants.{Potential, GeoidHeight, GravityDisturbance, GravityAnomaly, RadialGradient, WaterHeight}
use Rattle.functional.specs.declared.NoFunctional.{NoFunctional}

abbrev pub number_of : Functional → ℕ
number_of Potential = 0
number_of GeoidHeight = 1
number_of GravityDisturbance = 2
number_of GravityAnomaly = 3
number_of RadialGradient = 4
number_of WaterHeight = 5

pub number_small : (f : Functional) → number_of f ≤ 5
number_small Potential = omega arith
number_small GeoidHeight = omega arith
number_small GravityDisturbance = omega arith
number_small GravityAnomaly = omega arith
number_small RadialGradient = omega arith
number_small WaterHeight = omega arith

-- the functional of this number, or an error that holds a number above 5
abbrev pub Decodes : ℕ → Result Functional NoFunctional → Type 0
Decodes k r = MatchResult r (λ f. number_of f ≡ k) (λ e. (e.0 ≡ k) × (5 < k))
