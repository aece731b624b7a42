-- `degrees::amplitude` meets its contract, by those of what it calls. Assumes nothing.
use Rattle.coefficients.specs.Values.{amplitude_from}
use borrow.Author.Rules.{rules}
use Rattle.coefficients.proofs.degrees.amplitude.Goals as goal

pub returns : goal.returns
unfolding amplitude_from
returns c = cc
