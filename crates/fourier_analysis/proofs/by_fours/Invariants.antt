-- `by_fours` meets its contract: the sums of the orders below m are written. Assumes nothing.
use Rattle.fourier_analysis.specs.Longitudes.{pair_from}
use Rattle.storage.specs.Filled.{Filled}
use Rattle.storage.specs.Rectangle.{by_rows}
use mathlib.Core.Path.{◌≡◌}
use Prim.Native.Nat.{◌*◌}
use Rattle.fourier_analysis.proofs.by_fours.Given as goal

abbrev pub invariant-loop-block : goal.invariant-loop-block
invariant-loop-block l = (l.k ≡ 4 * l.block * l.stride) × Filled 0 (by_rows (pair_from l.values l.trig l.at l.longitudes) 2) (4 * l.block * 2) l.initial.sums l.sums
