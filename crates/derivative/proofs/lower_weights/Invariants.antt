-- `derivative::lower_weights` meets its contract: the weights below order m are written, and `lower` is that of order m. Assumes nothing.
use Rattle.derivative.specs.Derivative.{lower_of, weight_above}
use Rattle.storage.specs.Filled.{Filled}
use Rattle.number.specs.Float64.{of_whole}
use mathlib.Core.Path.{◌≡◌}
use Prim.Native.Nat.{◌+◌, ◌-◌, ◌≤◌}
use Rattle.derivative.proofs.lower_weights.Given as goal

abbrev pub invariant-loop-m : goal.invariant-loop-m
invariant-loop-m l = (1 ≤ l.m) × (l.m ≤ l.n) × (l.mf ≡ of_whole l.m) × (l.lower ≡ lower_of l.n l.m) × Filled (l.at + 1) (weight_above l.n) (l.m - 1) l.initial.w l.w
