-- `squares` meets its contract: the sum that is still to come of the sum now is the whole. Assumes nothing.
use mathlib.Core.Path.{◌≡◌}
use lib.ListN.{length}
use Rattle.storage.specs.Iterate.{iterate}
use Rattle.jacobi.specs.Jacobi.{add_square}
use Rattle.jacobi.proofs.squares.Given as goal

abbrev pub invariant-loop-k : goal.invariant-loop-k
invariant-loop-k l = (l.size ≡ length l.a) × (iterate (add_square l.a) l.k l.size l.t ≡ iterate (add_square l.a) 0 l.size l.initial.t)
