-- `one_by_one` meets its contract: the sums of the orders below m are written. Assumes nothing.
use Rattle.fourier_analysis.specs.Longitudes.{pair_from}
use Rattle.storage.specs.Filled.{Filled}
use Rattle.storage.specs.Rectangle.{by_rows}
use mathlib.Core.Path.{◌≡◌}
use Prim.Native.Nat.{◌+◌, ◌*◌, ◌≤◌}
use Rattle.fourier_analysis.proofs.one_by_one.Given as goal

abbrev pub invariant-loop-m : goal.invariant-loop-m
invariant-loop-m l = ((l.first ≤ l.m) × (l.m ≤ l.nmax + 1)) × (l.k ≡ l.m * l.stride) × Filled 0 (by_rows (pair_from l.values l.trig l.at l.longitudes) 2) (l.m * 2) l.initial.sums l.sums
