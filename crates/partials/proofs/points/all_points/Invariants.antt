-- `points::all_points` meets its contract: the points before point i are written. Assumes nothing.
use Rattle.local.specs.Point.{along_cell}
use Rattle.storage.specs.Rectangle.{by_rows}
use Rattle.storage.specs.Filled.{Filled}
use mathlib.Core.Path.{◌≡◌}
use Prim.Native.Nat.{◌*◌, ◌≤◌}
use lib.ListN.{length}
use Rattle.partials.proofs.points.all_points.Given as goal

abbrev pub invariant-loop-i : goal.invariant-loop-i
invariant-loop-i l = (l.i ≤ l.points) × (l.at ≡ l.i * 4) × Filled 0 (by_rows (along_cell l.gm l.radius l.nmax l.c l.s l.trig l.radii l.latitudes) 4) (l.i * 4) l.initial.out l.out
    × (length l.rescales ≡ length l.initial.rescales) × (length l.even ≡ length l.initial.even) × (length l.odd ≡ length l.initial.odd)
    × (length l.p ≡ length l.initial.p) × (length l.d ≡ length l.initial.d)
