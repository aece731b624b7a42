-- `cosine` meets its contract. Assumes nothing.
use lib.Ieee.{Float}
use mathlib.Core.Path.{ap}
use borrow.Author.Rules.{rules}
use Rattle.number.specs.Float64.{◌⊘◌, one64}
use Rattle.jacobi.proofs.cosine.Goals as goal

pub returns : goal.returns
returns c = ap (λ (x : Float). one64 ⊘ x) c.hypot.ensures
