-- `rows::next_sectoral` meets its contract. Assumes nothing.
use Rattle.number.specs.Float64.{◌⊗◌}
use Rattle.number.specs.Root.{root_of}
use borrow.Author.Rules.{rules}
use mathlib.Core.Path.{ap, ◌∙◌}
use lib.Ieee.{Float}
use Rattle.legendre.proofs.rows.next_sectoral.Goals as goal

pub returns : goal.returns
returns c = ap (λ (x : Float). c.args.pmm ⊗ x) (c.root.ensures ∙ ap root_of c.sectoral_ratio.ensures)
