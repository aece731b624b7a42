-- `degrees::two_degree_sums` meets its contract: both sums so far are those of the orders below `order`. Assumes nothing.
use Rattle.coefficients.specs.Values.{squares_from}
use Rattle.number.specs.Float64.{◌⊕◌, zero64}
use Rattle.storage.specs.Fold.{fold_left}
use mathlib.Core.Path.{◌≡◌}
use Prim.Native.Nat.{◌≤◌}
use Rattle.coefficients.proofs.degrees.two_degree_sums.Given as goal

abbrev pub invariant-loop-order : goal.invariant-loop-order
invariant-loop-order l = (l.order ≤ l.count) × (l.first ≡ fold_left ◌⊕◌ (squares_from l.at l.c l.s) zero64 l.order) × (l.second ≡ fold_left ◌⊕◌ (squares_from l.next l.c l.s) zero64 l.order)
