-- `functions::write_function` meets its contract: the degrees below l are written. Assumes nothing.
use mathlib.Core.Path.{◌≡◌}
use Prim.Native.Nat.{◌+◌, ◌*◌, ◌≤◌}
use Rattle.storage.specs.Filled.{Filled}
use Rattle.storage.specs.Triangle.{row_start, along}
use Rattle.region.specs.Written.{in_vector}
use Rattle.region.proofs.functions.write_function.Given as goal

abbrev pub invariant-loop-l : goal.invariant-loop-l
invariant-loop-l l = (l.l ≤ l.lmax + 1) × (l.at ≡ l.start + l.l * l.l) × (l.row ≡ l.to + row_start l.l) × Filled l.to (along (in_vector l.sine l.w l.start)) (row_start l.l) l.initial.out l.out
