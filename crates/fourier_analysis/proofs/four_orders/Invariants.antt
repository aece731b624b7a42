-- `four_orders` meets its contract: the eight sums so far are those of the longitudes below j. Assumes nothing.
use Rattle.fourier_analysis.specs.Longitudes.{FourOrders}
use Prim.Native.Nat.{◌≤◌}
use Rattle.fourier_analysis.proofs.four_orders.Given as goal

abbrev pub invariant-loop-j : goal.invariant-loop-j
invariant-loop-j l = (l.j ≤ l.longitudes) × FourOrders l.values l.trig l.at l.k l.stride l.j l.a l.b l.c l.d l.e l.f l.g l.h
