-- `count_up` meets its contract: the places below i are written. Assumes nothing.
use Prim.Native.Nat.{◌≤◌}
use Rattle.storage.specs.Filled.{Filled}
use Rattle.ranking.specs.Runs.{place_in}
use Rattle.ranking.proofs.count_up.Given as goal

abbrev pub invariant-loop-i : goal.invariant-loop-i
invariant-loop-i l = (l.i ≤ l.n) × Filled 0 place_in l.i l.initial.places l.places
