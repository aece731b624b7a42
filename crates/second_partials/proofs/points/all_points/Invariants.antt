-- `points::all_points` meets its contract: the points before point i are written. Assumes nothing.
use Rattle.second_partials.specs.Working.{Worked}
use Rattle.local.specs.Second.{second_cell}
use Rattle.storage.specs.Rectangle.{by_rows}
use Rattle.storage.specs.Filled.{Filled}
use mathlib.Core.Path.{◌≡◌}
use Prim.Native.Nat.{◌*◌, ◌≤◌}
use lib.ListN.{length}
use Rattle.second_partials.proofs.points.all_points.Given as goal

abbrev pub invariant-loop-i : goal.invariant-loop-i
invariant-loop-i l = (l.i ≤ l.points) × (l.at ≡ l.i * 10) × Filled 0 (by_rows (second_cell l.gm l.radius l.nmax l.c l.s l.trig l.radii l.latitudes) 10) (l.i * 10) l.initial.out l.out
    × Worked l.nmax l.initial.work l.work × (length l.rows ≡ length l.initial.rows)
