-- `rows::grid_rows` meets its contract: the rows above row i are written. Assumes nothing.
use Rattle.storage.specs.Rectangle.{by_rows}
use Rattle.synthesis.specs.Rows.{rows_value}
use Rattle.storage.specs.Elements.{from}
use lib.Ieee.{nan}
use Rattle.storage.specs.Filled.{Filled}
use mathlib.Core.Path.{◌≡◌}
use Prim.Native.Nat.{◌*◌, ◌≤◌}
use lib.ListN.{length}
use Rattle.synthesis.proofs.rows.grid_rows.Given as goal

abbrev pub invariant-loop-i : goal.invariant-loop-i
invariant-loop-i l = (l.i ≤ l.rows) × (l.at ≡ l.i * l.longitudes)
    × Filled 0 (by_rows (rows_value (from 0 l.a nan) (from 0 l.b nan) (from 0 l.factors nan) l.latitudes l.c l.s l.trig l.nmax) l.longitudes) (l.i * l.longitudes) l.initial.out l.out
    × (length l.r ≡ length l.initial.r) × (length l.even ≡ length l.initial.even) × (length l.odd ≡ length l.initial.odd)
    × (length l.p ≡ length l.initial.p) × (length l.x ≡ length l.initial.x) × (length l.y ≡ length l.initial.y)
