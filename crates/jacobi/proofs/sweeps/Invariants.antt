-- `sweeps` meets its contract: each way through the test has its law. Assumes nothing.
use Prim.Native.Nat.{◌≤◌}
use Rattle.jacobi.specs.Jacobi.{sweeps}
use Rattle.jacobi.specs.JacobiLaws.{held, Sweeping}
use Rattle.jacobi.proofs.sweeps.Given as goal

abbrev pub invariant-loop-k : goal.invariant-loop-k
invariant-loop-k l = (l.k ≤ 100) × Sweeping l.n l.scale l.k (sweeps l.n l.scale (held l.n l.initial.a l.initial.v)) l.initial.a l.initial.v l.a l.v
