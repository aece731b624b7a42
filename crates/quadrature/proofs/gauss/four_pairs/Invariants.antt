-- `gauss::four_pairs` meets its contract: each of the four recursions goes as the one of `legendre_pair` does. Assumes nothing.
use Rattle.quadrature.specs.GaussLaws.{Recursion}
use Prim.Native.Nat.{◌+◌, ◌≤◌}
use Rattle.quadrature.proofs.gauss.four_pairs.Given as goal

abbrev pub invariant-loop-k : goal.invariant-loop-k
invariant-loop-k l = (2 ≤ l.k) × (l.k ≤ l.n + 2) × Recursion l.n l.za l.k l.a0 l.a1 × Recursion l.n l.zb l.k l.b0 l.b1 × Recursion l.n l.zc l.k l.c0 l.c1 × Recursion l.n l.zd l.k l.d0 l.d1
