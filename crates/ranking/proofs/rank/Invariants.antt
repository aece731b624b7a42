-- `rank` meets its contract: the places are runs of `width`, each ranked. Assumes nothing.
use mathlib.Core.Path.{◌≡◌, refl, ◌∙◌}
use native.Mathlib.Nat.{le_refl}
use native.Mathlib.Omega.{arith}
use Prim.Native.Nat.{◌+◌, ◌-◌, ◌*◌, ◌≤◌}
use lib.ListN.{length}
use Rattle.storage.specs.Filled.{Filled, filled_self, filled_again}
use Rattle.storage.specs.Rectangle.{by_rows}
use Rattle.ranking.specs.Runs.{ranked_run, runs_of_one, runs_width, all_ranked}
use Rattle.ranking.proofs.rank.Given as goal

abbrev pub invariant-loop-width : goal.invariant-loop-width
invariant-loop-width l = (1 ≤ l.width) × (l.width ≤ 4294967296) × Filled 0 (by_rows (ranked_run l.keys l.width) l.width) l.n l.initial.places l.places × (length l.spare ≡ length l.initial.spare)

abbrev pub decreases-loop-width : goal.decreases-loop-width
decreases-loop-width l = l.n - l.width
