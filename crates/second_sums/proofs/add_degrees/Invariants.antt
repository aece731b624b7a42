-- `add_degrees` meets its contract: the degrees below n are added, and the last two rows of the recursion are at hand. Assumes nothing.
use Rattle.second_sums.specs.Sums.{DegreesBelow}
use mathlib.Core.Path.{◌≡◌}
use Prim.Native.Nat.{◌+◌, ◌≤◌}
use lib.ListN.{length}
use Rattle.second_sums.proofs.add_degrees.Given as goal

abbrev pub invariant-loop-n : goal.invariant-loop-n
invariant-loop-n l = (l.n ≤ l.nmax + 1) × (length l.rows ≡ length l.initial.rows) × DegreesBelow l.n l.at l.q l.t l.u l.k l.c l.s l.trig l.rows l.sums
