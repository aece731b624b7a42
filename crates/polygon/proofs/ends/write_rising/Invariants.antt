-- `write_rising` meets its contract: the lowest keys are written. Assumes nothing.
use Rattle.storage.specs.Elements.{from}
use Rattle.storage.specs.Filled.{Filled}
use Rattle.ranking.specs.Places.{rising}
use lib.Ieee.{nan}
use Prim.Native.Nat.{◌≤◌}
use Rattle.polygon.proofs.ends.write_rising.Given as goal

abbrev pub invariant-loop-i : goal.invariant-loop-i
invariant-loop-i l = (l.i ≤ l.n) × Filled 0 (from 0 (rising l.keys) nan) l.i l.initial.out l.out
