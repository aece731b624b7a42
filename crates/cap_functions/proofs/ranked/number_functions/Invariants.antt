-- `ranked::number_functions` meets its contract: the functions of the orders below m are numbered. Assumes nothing.
use mathlib.Core.Path.{◌≡◌}
use Prim.Native.Nat.{◌+◌, ◌≤◌}
use Rattle.storage.specs.Filled.{Filled}
use Rattle.cap_functions.specs.CapPlaces.{functions_before, numbers_before, vectors_at}
use Rattle.cap_functions.specs.CapRanked.{order_at, start_at}
use Rattle.cap_functions.proofs.ranked.number_functions.Given as goal

abbrev pub invariant-loop-m : goal.invariant-loop-m
invariant-loop-m l = (l.m ≤ l.lmax + 1) × (l.f ≡ functions_before l.lmax l.m) × (l.v ≡ vectors_at l.lmax + numbers_before l.lmax l.m)
    × Filled 0 (order_at l.lmax) (functions_before l.lmax l.m) l.initial.orders l.orders × Filled 0 (start_at l.lmax) (functions_before l.lmax l.m) l.initial.starts l.starts
