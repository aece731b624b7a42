-- `Functional::degree_factor` meets its contract, functional by functional. Assumes nothing.
use native.Mathlib.Omega.{arith}
use borrow.Author.Rules.{rules}
use Rattle.functional.specs.Factor.{factor_of}
use Rattle.number.specs.Whole.{whole}
use Rattle.functional.proofs.Functional.degree_factor.Goals as goal

pub int_to_float-nf : goal.int_to_float-nf
int_to_float-nf c = whole _ (omega arith)

pub returns-in-Potential : goal.returns-in-Potential
unfolding factor_of
returns-in-Potential c = rw c.in-Potential.is (cc)

pub returns-in-GeoidHeight : goal.returns-in-GeoidHeight
unfolding factor_of
returns-in-GeoidHeight c = rw c.in-GeoidHeight.is (cc)

pub returns-in-GravityDisturbance : goal.returns-in-GravityDisturbance
unfolding factor_of
returns-in-GravityDisturbance c = rw c.in-GravityDisturbance.is (cc)

pub returns-in-GravityAnomaly : goal.returns-in-GravityAnomaly
unfolding factor_of
returns-in-GravityAnomaly c = rw c.in-GravityAnomaly.is (cc)

pub returns-in-RadialGradient : goal.returns-in-RadialGradient
unfolding factor_of
returns-in-RadialGradient c = rw c.in-RadialGradient.is (cc)

pub returns-in-WaterHeight : goal.returns-in-WaterHeight
unfolding factor_of
returns-in-WaterHeight c = rw c.in-WaterHeight.is (cc)
