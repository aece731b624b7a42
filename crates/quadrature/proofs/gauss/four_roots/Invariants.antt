-- `gauss::four_roots` meets its contract: each root goes as the one of `legendre_root` does, and stays once it has settled. Assumes nothing.
use Rattle.quadrature.specs.GaussLaws.{Corrected}
use Prim.Native.Nat.{◌≤◌}
use Rattle.quadrature.proofs.gauss.four_roots.Given as goal

abbrev pub invariant-loop-k : goal.invariant-loop-k
invariant-loop-k l = (l._k ≤ 100) × Corrected l.n l.za l._k l.a × Corrected l.n l.zb l._k l.b × Corrected l.n l.zc l._k l.c × Corrected l.n l.zd l._k l.d
