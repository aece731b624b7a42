-- `ranked::write_functions` meets its contract: i functions are written. Assumes nothing.
use Prim.Native.Nat.{◌≤◌}
use Rattle.storage.specs.Filled.{Filled}
use Rattle.cap_functions.specs.CapRanked.{picked_order, picked_number}
use Rattle.cap_functions.proofs.ranked.write_functions.Given as goal

abbrev pub invariant-loop-i : goal.invariant-loop-i
invariant-loop-i l = (l.i ≤ l.n) × Filled 0 (picked_order l.places l.order) l.i l.initial.orders l.orders × Filled 0 (picked_number l.at l.places l.work) l.i l.initial.concentrations l.concentrations
