-- `ranked::number_order` meets its contract: the functions of the columns below col are numbered. Assumes nothing.
use mathlib.Core.Path.{◌≡◌}
use Prim.Native.Nat.{◌+◌, ◌*◌, ◌≤◌}
use Rattle.storage.specs.Filled.{Filled}
use Rattle.cap_functions.specs.CapRanked.{same_order, apart_by}
use Rattle.cap_functions.proofs.ranked.number_order.Given as goal

abbrev pub invariant-loop-col : goal.invariant-loop-col
invariant-loop-col l = (l.col ≤ l.k) × (l.start ≡ l.v + l.col * l.k) × Filled l.f (same_order l.m) l.col l.initial.orders l.orders × Filled l.f (apart_by l.v l.k) l.col l.initial.starts l.starts
