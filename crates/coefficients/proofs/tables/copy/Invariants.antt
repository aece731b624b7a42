-- `tables::copy` meets its contract: so many numbers from the front are copied. Assumes nothing.
use lib.Ieee.{nan}
use Rattle.storage.specs.Elements.{from}
use Rattle.storage.specs.Filled.{Filled}
use Prim.Native.Nat.{◌≤◌}
use Rattle.coefficients.proofs.tables.copy.Given as goal

abbrev pub invariant-loop-k : goal.invariant-loop-k
invariant-loop-k l = (l.k ≤ l.size) × Filled 0 (from 0 l.list nan) l.k l.initial.out l.out
