-- `grunbaum` meets its contract: the rows above row i are written. Assumes nothing.
use Rattle.caps.specs.Caps.{grunbaum_cell}
use Rattle.storage.specs.Filled.{Filled}
use Rattle.storage.specs.Rectangle.{by_rows}
use mathlib.Core.Path.{◌≡◌}
use Prim.Native.Nat.{◌*◌, ◌≤◌}
use Rattle.caps.proofs.grunbaum.grunbaum.Given as goal

abbrev pub invariant-loop-i : goal.invariant-loop-i
invariant-loop-i l = (l.i ≤ l.k) × (l.at ≡ l.i * l.k) × Filled 0 (by_rows (grunbaum_cell l.lmax l.m l.x0) l.k) (l.i * l.k) l.initial.g l.g
