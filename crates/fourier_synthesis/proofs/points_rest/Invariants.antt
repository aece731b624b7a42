-- `points_rest` meets its contract: the values from the first up to longitude j are written. Assumes nothing.
use Rattle.fourier_synthesis.specs.Longitudes.{point_after}
use Rattle.storage.specs.Filled.{Filled}
use mathlib.Core.Path.{◌≡◌}
use Prim.Native.Nat.{◌+◌, ◌-◌, ◌*◌, ◌≤◌}
use Rattle.fourier_synthesis.proofs.points_rest.Given as goal

abbrev pub invariant-loop-j : goal.invariant-loop-j
invariant-loop-j l = ((l.first ≤ l.j) × (l.j ≤ l.longitudes)) × (l.k ≡ l.j * l.stride) × Filled (l.at + l.first) (point_after l.first l.nmax l.x l.y l.trig) (l.j - l.first) l.initial.out l.out
