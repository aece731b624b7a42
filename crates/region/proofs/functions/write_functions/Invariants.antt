-- `functions::write_functions` meets its contract: i functions are written. Assumes nothing.
use mathlib.Core.Path.{◌≡◌}
use Prim.Native.Nat.{◌*◌, ◌≤◌}
use Rattle.storage.specs.Filled.{Filled}
use Rattle.storage.specs.Rectangle.{by_rows}
use Rattle.region.specs.Written.{picked_vector}
use Rattle.region.proofs.functions.write_functions.Given as goal

abbrev pub invariant-loop-i : goal.invariant-loop-i
invariant-loop-i l = (l.i ≤ l.n) × (l.to ≡ l.i * l.table) × Filled 0 (by_rows (picked_vector l.sine l.n l.at l.places l.w) l.table) (l.i * l.table) l.initial.out l.out
