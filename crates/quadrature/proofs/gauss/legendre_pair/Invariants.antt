-- `gauss::legendre_pair` meets its contract: the turns from k on make of the two polynomials what all turns make of 1 and z. Assumes nothing.
use Rattle.quadrature.specs.GaussLaws.{Recursion}
use Prim.Native.Nat.{◌+◌, ◌≤◌}
use Rattle.quadrature.proofs.gauss.legendre_pair.Given as goal

abbrev pub invariant-loop-k : goal.invariant-loop-k
invariant-loop-k l = (2 ≤ l.k) × (l.k ≤ l.n + 2) × Recursion l.n l.z l.k l.p0 l.p1
