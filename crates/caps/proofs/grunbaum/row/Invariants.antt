-- `row` meets its contract: the numbers below column j are written. Assumes nothing.
use Rattle.caps.specs.Caps.{grunbaum_cell}
use Rattle.storage.specs.Filled.{Filled}
use Prim.Native.Nat.{◌≤◌}
use Rattle.caps.proofs.grunbaum.row.Given as goal

abbrev pub invariant-loop-j : goal.invariant-loop-j
invariant-loop-j l = (l.j ≤ l.k) × Filled l.at (grunbaum_cell l.lmax l.m l.x0 l.i) l.j l.initial.g l.g
