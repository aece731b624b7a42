-- `derivative::derive_orders` meets its contract: the orders below m are written. Assumes nothing.
use Rattle.derivative.specs.Derivative.{derived_above}
use Rattle.storage.specs.Filled.{Filled}
use Rattle.storage.specs.Elements.{from}
use lib.Ieee.{nan}
use Prim.Native.Nat.{◌+◌, ◌-◌, ◌≤◌}
use Rattle.derivative.proofs.derive_orders.Given as goal

abbrev pub invariant-loop-m : goal.invariant-loop-m
invariant-loop-m l = (1 ≤ l.m) × (l.m ≤ l.n) × Filled (l.at + 1) (derived_above l.n (from l.wat l.w nan) (from l.at l.src nan)) (l.m - 1) l.initial.dst l.dst
