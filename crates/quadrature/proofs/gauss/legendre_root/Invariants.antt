-- `gauss::legendre_root` meets its contract: the corrections still to come make of the root so far what all make of the guess. Assumes nothing.
use Rattle.quadrature.specs.GaussLaws.{Corrected}
use Prim.Native.Nat.{◌≤◌}
use Rattle.quadrature.proofs.gauss.legendre_root.Given as goal

abbrev pub invariant-loop-k : goal.invariant-loop-k
invariant-loop-k l = (l._k ≤ 100) × Corrected l.n l.guess l._k l.s
