-- `ranked::write_vectors` meets its contract: the vectors of i functions are written. Assumes nothing.
use mathlib.Core.Path.{◌≡◌}
use Prim.Native.Nat.{◌≤◌}
use lib.ListN.{length}
use lib.ListN.{take}
use lib.Ieee.{nan}
use Rattle.storage.specs.Elements.{from}
use Rattle.storage.specs.Filled.{Filled}
use Rattle.ranking.specs.Rankings.{joined}
use Rattle.cap_functions.specs.CapRanked.{run_at}
use Rattle.cap_functions.proofs.ranked.write_vectors.Given as goal

abbrev pub invariant-loop-i : goal.invariant-loop-i
invariant-loop-i l = (l.i ≤ l.n) × (l.v ≡ length (joined (run_at l.lmax l.order l.starts l.work) (take l.i l.places)))
    × Filled 0 (from 0 (joined (run_at l.lmax l.order l.starts l.work) (take l.n l.places)) nan) l.v l.initial.vectors l.vectors
