-- `shifted` meets its contract. Assumes nothing.
use Rattle.ql.specs.Ql.{shifted}
use mathlib.Core.Path.{refl}
use borrow.Author.Rules.{rules}
use Rattle.ql.proofs.shifted.Goals as goal

pub returns : goal.returns
unfolding shifted
returns c = rw (c.signed.ensures, c.hypot.ensures) refl
