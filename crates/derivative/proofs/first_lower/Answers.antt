-- `derivative::first_lower` meets its contract. Assumes nothing.
use Rattle.number.specs.Whole.{whole}
use lib.Ieee.{Float}
use Rattle.number.specs.Float64.{◌⊗◌}
use Rattle.derivative.specs.Derivative.{root_two64, lower_first}
use native.Mathlib.Omega.{arith}
use mathlib.Core.Path.{ap, ◌∙◌}
use borrow.Author.Rules.{rules}
use Rattle.derivative.proofs.first_lower.Goals as goal

pub int_to_float-nf : goal.int_to_float-nf
int_to_float-nf c = whole _ (omega arith)

pub returns : goal.returns
returns c = ap (λ (x : Float). root_two64 ⊗ x) c.root_near.ensures ∙ lower_first c.args.n
