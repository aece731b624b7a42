-- `Functional::lacks_love` meets its contract, functional by functional. Assumes nothing.
use borrow.Author.Rules.{rules}
use Rattle.functional.proofs.Functional.lacks_love.Goals as goal

pub returns-in-WaterHeight : goal.returns-in-WaterHeight
returns-in-WaterHeight c = rw c.in-WaterHeight.is

pub returns-in-Potential : goal.returns-in-Potential
returns-in-Potential c = rw c.in-Potential.is

pub returns-in-GeoidHeight : goal.returns-in-GeoidHeight
returns-in-GeoidHeight c = rw c.in-GeoidHeight.is

pub returns-in-GravityDisturbance : goal.returns-in-GravityDisturbance
returns-in-GravityDisturbance c = rw c.in-GravityDisturbance.is

pub returns-in-GravityAnomaly : goal.returns-in-GravityAnomaly
returns-in-GravityAnomaly c = rw c.in-GravityAnomaly.is

pub returns-in-RadialGradient : goal.returns-in-RadialGradient
returns-in-RadialGradient c = rw c.in-RadialGradient.is
