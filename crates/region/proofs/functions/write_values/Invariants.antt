-- `functions::write_values` meets its contract: i values are written. Assumes nothing.
use Prim.Native.Nat.{◌≤◌}
use Rattle.storage.specs.Filled.{Filled}
use Rattle.region.specs.Written.{picked_value}
use Rattle.region.proofs.functions.write_values.Given as goal

abbrev pub invariant-loop-i : goal.invariant-loop-i
invariant-loop-i l = (l.i ≤ l.n) × Filled 0 (picked_value l.places l.values) l.i l.initial.out l.out
