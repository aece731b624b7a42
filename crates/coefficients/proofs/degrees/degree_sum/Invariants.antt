-- `degrees::degree_sum` meets its contract: the sum so far is that of the orders below m. Assumes nothing.
use Rattle.coefficients.specs.Values.{squares_from}
use Rattle.number.specs.Float64.{◌⊕◌, zero64}
use Rattle.storage.specs.Fold.{fold_left}
use mathlib.Core.Path.{◌≡◌}
use Prim.Native.Nat.{◌≤◌}
use Rattle.coefficients.proofs.degrees.degree_sum.Given as goal

abbrev pub invariant-loop-m : goal.invariant-loop-m
invariant-loop-m l = (l.m ≤ l.count) × (l.sum ≡ fold_left ◌⊕◌ (squares_from l.at l.c l.s) zero64 l.m)
