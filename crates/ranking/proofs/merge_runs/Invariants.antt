-- `merge_runs` meets its contract: what is left of the two runs, merged, is what is left of them merged. Assumes nothing.
use mathlib.Core.Path.{◌≡◌}
use Prim.Native.Nat.{◌+◌, ◌-◌, ◌≤◌}
use lib.ListN.{drop}
use lib.Seq.{slice}
use Rattle.number.specs.Ranking.{merge}
use Rattle.storage.specs.Elements.{from}
use Rattle.storage.specs.Filled.{Filled}
use Rattle.ranking.specs.Places.{key_before}
use Rattle.ranking.proofs.merge_runs.Given as goal

abbrev pub invariant-loop-k : goal.invariant-loop-k
invariant-loop-k l = (l.i ≤ l.mid) × (l.mid ≤ l.j) × (l.j ≤ l.hi) × (l.i + l.j ≡ l.k + l.mid) × (l.lo ≤ l.k)
    × Filled l.lo (from 0 (merge (key_before l.keys) (slice l.lo l.mid l.src) (slice l.mid l.hi l.src)) 0) (l.k - l.lo) l.initial.dst l.dst
    × (drop (l.k - l.lo) (merge (key_before l.keys) (slice l.lo l.mid l.src) (slice l.mid l.hi l.src)) ≡ merge (key_before l.keys) (slice l.i l.mid l.src) (slice l.j l.hi l.src))
