-- `add_degree` meets its contract: the total so far is that of the orders below m. Assumes nothing.
use Rattle.rounding.specs.Sums.{running_sum}
use Rattle.slepian.specs.Average.{degree_term}
use lib.Ieee.{binary64}
use mathlib.Core.Path.{◌≡◌}
use Prim.Native.Nat.{◌≤◌}
use Rattle.slepian.proofs.add_degree.Given as goal

abbrev pub invariant-loop-m : goal.invariant-loop-m
invariant-loop-m l = (l.m ≤ l.count) × (l.total ≡ running_sum binary64 (degree_term l.factor l.at l.c l.s l.kc l.ks) l.m l.sum)
