-- `row_sums` meets its contract: the sums so far are those of the orders below m, and P and its derivatives are at hand. Assumes nothing.
use Rattle.second_sums.specs.Window.{Window}
use Rattle.second_sums.specs.Sums.{OrdersBelow}
use Rattle.point_sums.specs.Sums.{cosine_from, sine_from}
use Rattle.derivative.specs.Derivative.{derived_row}
use Rattle.second_sums.specs.Pairs.{scaled_pair}
use Rattle.storage.specs.Elements.{from}
use Rattle.number.specs.Float64.{of_whole}
use lib.Ieee.{nan}
use mathlib.Core.Path.{◌≡◌}
use Prim.Native.Nat.{◌≤◌}
use Rattle.second_sums.proofs.row_sums.Given as goal

abbrev pub invariant-loop-m : goal.invariant-loop-m
invariant-loop-m l = let f = scaled_pair l.rows l.r in
    let v' = from l.at l.w nan in
    (l.m ≤ l.count) × (l.mf ≡ of_whole l.m) × Window l.n v' f l.m l.p l.above l.behind l.d
    × OrdersBelow f (derived_row l.n v' f) (derived_row l.n v' (derived_row l.n v' f)) (from l.at l.c nan) (from l.at l.s nan) (cosine_from l.k l.trig) (sine_from l.k l.trig) l.m
    l.v l.lat l.latlat l.lon l.lonlon l.latlon
