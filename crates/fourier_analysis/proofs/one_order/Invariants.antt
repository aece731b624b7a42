-- `one_order` meets its contract: the two sums so far are those of the longitudes below j. Assumes nothing.
use Rattle.fourier_analysis.specs.Longitudes.{sum_from}
use mathlib.Core.Path.{◌≡◌}
use Prim.Native.Nat.{◌+◌, ◌≤◌}
use Rattle.fourier_analysis.proofs.one_order.Given as goal

abbrev pub invariant-loop-j : goal.invariant-loop-j
invariant-loop-j l = (l.j ≤ l.longitudes) × (l.a ≡ sum_from l.values l.trig l.at l.k l.j) × (l.b ≡ sum_from l.values l.trig l.at (l.k + 1) l.j)
