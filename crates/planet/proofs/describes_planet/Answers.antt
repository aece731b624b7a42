-- `describes_planet` meets its contract. Assumes nothing.
use borrow.Author.Rules.{rules}
use mathlib.Core.Path.{◌∙◌}
use Rattle.planet.specs.Planet.{above_zero, first_fails, first_holds}
use Rattle.planet.proofs.describes_planet.Goals as goal

pub returns-then-not-above_zero : goal.returns-then-not-above_zero
returns-then-not-above_zero c = let a = c.args in first_fails (above_zero a.gm) (above_zero a.radius) (cc)

pub returns : goal.returns
returns c =
    let a = c.args in
    c.above_zero-2.ensures ∙ first_holds (above_zero a.gm) (above_zero a.radius) (cc)
