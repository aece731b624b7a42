-- `directions::latitude_of` meets its contract: the pair of row i. Assumes nothing.
use Rattle.legendre.specs.Directions.{row_sine, row_cosine}
use mathlib.Core.Path.{refl}
use borrow.Author.Rules.{rules}
use Rattle.legendre.proofs.directions.latitude_of.Goals as goal

pub returns : goal.returns
unfolding row_sine row_cosine
returns c = record { fact_1 = refl; fact_2 = refl }
