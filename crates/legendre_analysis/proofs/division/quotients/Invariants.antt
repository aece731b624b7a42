-- `division::quotients` meets its contract: the entries so far are divided. Assumes nothing.
use Rattle.legendre_analysis.specs.Division.{quotient_row}
use Rattle.storage.specs.Filled.{Filled}
use Prim.Native.Nat.{◌≤◌}
use Rattle.legendre_analysis.proofs.division.quotients.Given as goal

abbrev pub invariant-loop-m : goal.invariant-loop-m
invariant-loop-m l = (l.m ≤ l.count) × Filled l.at (quotient_row l.factor l.at l.initial.c) l.m l.initial.c l.c
