-- `order_in` meets its contract. Assumes nothing.
use Rattle.region_nodes.specs.Places.{order_in}
use mathlib.Core.Path.{refl}
use borrow.Author.Rules.{rules}
use Rattle.region_nodes.proofs.basis.order_in.Goals as goal

pub returns : goal.returns
unfolding order_in
returns c = refl
