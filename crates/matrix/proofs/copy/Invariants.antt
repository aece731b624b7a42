-- `copy` meets its contract: k numbers are copied. Assumes nothing.
use lib.Ieee.{nan}
use Prim.Native.Nat.{◌≤◌}
use Rattle.storage.specs.Elements.{from}
use Rattle.storage.specs.Filled.{Filled}
use Rattle.matrix.proofs.copy.Given as goal

abbrev pub invariant-loop-k : goal.invariant-loop-k
invariant-loop-k l = (l.k ≤ l.size) × Filled 0 (from 0 l.src nan) l.k l.initial.list l.list
