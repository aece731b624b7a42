-- `subdiagonal_at` meets its contract. Assumes nothing.
use mathlib.Core.Path.{refl}
use borrow.Author.Rules.{rules}
use borrow.Author.Tests.{lt-ltb, le-ltb}
use Rattle.householder.specs.Columns.{subdiagonal_in}
use Rattle.householder.proofs.subdiagonal_at.Goals as goal

pub returns-then-i-n : goal.returns-then-i-n
unfolding subdiagonal_in
returns-then-i-n c = rw (lt-ltb _ _ c.if-i-n.true, c.cell-at.ensures.is) refl

pub returns : goal.returns
unfolding subdiagonal_in
returns c = rw (le-ltb _ _ c.if-i-n.false) refl
