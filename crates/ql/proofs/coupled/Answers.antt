-- `coupled` meets its contract. Assumes nothing.
use Rattle.ql.specs.Ql.{coupled}
use mathlib.Core.Path.{refl}
use borrow.Author.Rules.{rules}
use Rattle.ql.proofs.coupled.Goals as goal

pub returns : goal.returns
unfolding coupled
returns c = rw (c.magnitude.ensures, c.magnitude-2.ensures, c.magnitude-3.ensures) refl
