-- `point` meets its contract: the sum so far is that of the orders below m. Assumes nothing.
use Rattle.fourier_synthesis.specs.Longitudes.{orders_below}
use mathlib.Core.Path.{◌≡◌}
use Prim.Native.Nat.{◌≤◌}
use Rattle.fourier_synthesis.proofs.point.Given as goal

abbrev pub invariant-loop-m : goal.invariant-loop-m
invariant-loop-m l = (l.m ≤ l.count) × (l.sum ≡ orders_below l.x l.y l.trig l.k l.m)
