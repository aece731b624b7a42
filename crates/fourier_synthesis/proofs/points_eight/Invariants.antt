-- `points_eight` meets its contract: the values of the blocks so far are written. Assumes nothing.
use Rattle.fourier_synthesis.specs.Longitudes.{point_at}
use Rattle.storage.specs.Filled.{Filled}
use mathlib.Core.Path.{◌≡◌}
use Prim.Native.Nat.{◌*◌}
use Rattle.fourier_synthesis.proofs.points_eight.Given as goal

abbrev pub invariant-loop-block : goal.invariant-loop-block
invariant-loop-block l = (l.k ≡ 8 * l.block * l.stride) × Filled l.at (point_at l.nmax l.x l.y l.trig) (8 * l.block) l.initial.out l.out
