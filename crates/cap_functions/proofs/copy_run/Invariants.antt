-- `copy_run` meets its contract: i numbers are copied. Assumes nothing.
use Prim.Native.Nat.{◌≤◌}
use lib.Ieee.{nan}
use Rattle.storage.specs.Elements.{from}
use Rattle.storage.specs.Filled.{Filled}
use Rattle.cap_functions.proofs.copy_run.Given as goal

abbrev pub invariant-loop-i : goal.invariant-loop-i
invariant-loop-i l = (l.i ≤ l.k) × Filled l.to (from l.first l.src nan) l.i l.initial.dst l.dst
