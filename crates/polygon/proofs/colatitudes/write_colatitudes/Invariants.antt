-- `write_colatitudes` meets its contract: the colatitudes of the vertices before i are written. Assumes nothing.
use Rattle.storage.specs.Filled.{Filled}
use Rattle.polygon.specs.Outline.{colatitude_at}
use Prim.Native.Nat.{◌≤◌}
use Rattle.polygon.proofs.colatitudes.write_colatitudes.Given as goal

abbrev pub invariant-loop-i : goal.invariant-loop-i
invariant-loop-i l = (l.i ≤ l.v) × Filled 0 (colatitude_at l.outline) l.i l.initial.keys l.keys
