-- `eight_points` meets its contract: the eight sums so far are those of the orders below m. Assumes nothing.
use Rattle.fourier_synthesis.specs.Longitudes.{EightPoints}
use Prim.Native.Nat.{◌≤◌}
use Rattle.fourier_synthesis.proofs.eight_points.Given as goal

abbrev pub invariant-loop-m : goal.invariant-loop-m
invariant-loop-m l = (l.m ≤ l.count) × EightPoints l.x l.y l.trig l.k l.stride l.m l.a l.b l.c l.d l.e l.f l.g l.h
