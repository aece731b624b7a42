-- `tangent` meets its contract. Assumes nothing.
use mathlib.Core.Path.{ap₂}
use borrow.Author.Rules.{rules}
use Rattle.number.specs.Float64.{◌⊕◌, ◌⊘◌}
use Rattle.jacobi.proofs.tangent.Goals as goal

pub returns : goal.returns
returns c = ap₂ ◌⊘◌ c.signum.ensures (ap₂ ◌⊕◌ c.magnitude.ensures c.hypot.ensures)
