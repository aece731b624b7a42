-- `gauss::one_by_one` meets its contract: i roots from index `at` on and their weights are written. Assumes nothing.
use lib.Ieee.{nan}
use Rattle.storage.specs.Elements.{from}
use Rattle.storage.specs.Filled.{Filled}
use Rattle.quadrature.specs.Gauss.{upper_node, upper_weight}
use Prim.Native.Nat.{◌+◌, ◌≤◌}
use Rattle.quadrature.proofs.gauss.one_by_one.Given as goal

abbrev pub invariant-loop-i : goal.invariant-loop-i
invariant-loop-i l = (l.at + l.i ≤ l.half) × Filled l.at (upper_node (from l.at l.guesses nan) l.n) l.i l.initial.x l.x × Filled l.at (upper_weight (from l.at l.guesses nan) l.n) l.i l.initial.w l.w
