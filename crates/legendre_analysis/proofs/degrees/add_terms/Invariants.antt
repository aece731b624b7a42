-- `degrees::add_terms` meets its contract: the entries so far have their terms added. Assumes nothing.
use Rattle.fourier_analysis.specs.Longitudes.{first_of, second_of}
use Rattle.legendre_analysis.specs.Degrees.{added_row}
use Rattle.storage.specs.Filled.{Filled}
use Prim.Native.Nat.{◌≤◌}
use Rattle.legendre_analysis.proofs.degrees.add_terms.Given as goal

abbrev pub invariant-loop-m : goal.invariant-loop-m
invariant-loop-m l = (l.m ≤ l.count) × Filled l.at (added_row l.weight l.at l.q l.r (first_of l.sums) l.initial.c) l.m l.initial.c l.c × Filled l.at (added_row l.weight l.at l.q l.r (second_of l.sums) l.initial.s) l.m l.initial.s l.s
