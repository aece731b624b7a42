-- `gauss::by_fours` meets its contract: the roots of the blocks so far and their weights are written. Assumes nothing.
use lib.Ieee.{nan}
use Rattle.storage.specs.Elements.{from}
use Rattle.storage.specs.Filled.{Filled}
use Rattle.quadrature.specs.Gauss.{upper_node, upper_weight}
use Prim.Native.Nat.{◌*◌}
use Rattle.quadrature.proofs.gauss.by_fours.Given as goal

abbrev pub invariant-loop-block : goal.invariant-loop-block
invariant-loop-block l = Filled 0 (upper_node (from 0 l.guesses nan) l.n) (4 * l.block) l.initial.x l.x × Filled 0 (upper_weight (from 0 l.guesses nan) l.n) (4 * l.block) l.initial.w l.w
