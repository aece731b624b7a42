-- `recursion::ratio_roots` meets its contract, which says nothing of the guesses. Assumes nothing.
use mathlib.Core.Path.{◌≡◌}
use Prim.Native.Nat.{◌≤◌}
use lib.ListN.{length}
use Rattle.recursion.proofs.ratio_roots.Given as goal

abbrev pub invariant-loop-k : goal.invariant-loop-k
invariant-loop-k l = (1 ≤ l.k) × (length l.out ≡ length l.initial.out)
