-- `sums::row_sums` meets its contract: the three sums so far are those of the orders below m. Assumes nothing.
use Rattle.point_sums.specs.Sums.{cosine_from, sine_from, OrdersBelow}
use Rattle.storage.specs.Elements.{from}
use Rattle.number.specs.Float64.{of_whole}
use lib.Ieee.{nan}
use mathlib.Core.Path.{◌≡◌}
use Prim.Native.Nat.{◌≤◌}
use Rattle.point_sums.proofs.row_sums.Given as goal

abbrev pub invariant-loop-m : goal.invariant-loop-m
invariant-loop-m l = (l.m ≤ l.count) × (l.mf ≡ of_whole l.m)
    × OrdersBelow (from 0 l.p nan) (from 0 l.d nan) (from l.at l.c nan) (from l.at l.s nan) (cosine_from l.k l.trig) (sine_from l.k l.trig) l.m l.even l.north l.east
