-- `sum_degrees` meets its contract: the sum so far is that of the degrees below n. Assumes nothing.
use Rattle.storage.specs.Triangle.{row_start}
use Rattle.functional.specs.Factor.{factor_of}
use Rattle.rounding.specs.Sums.{triangle_sum}
use Rattle.slepian.specs.Average.{terms}
use lib.Ieee.{binary64}
use mathlib.Core.Path.{◌≡◌}
use Prim.Native.Nat.{◌+◌, ◌≤◌}
use Rattle.slepian.proofs.sum_degrees.Given as goal

abbrev pub invariant-loop-n : goal.invariant-loop-n
invariant-loop-n l = (l.n ≤ l.top + 1) × (l.at ≡ row_start l.n) × (l.sum ≡ triangle_sum binary64 (terms l.c l.s l.kc l.ks (factor_of l.functional l.love l.gm l.radius l.r)) l.n)
