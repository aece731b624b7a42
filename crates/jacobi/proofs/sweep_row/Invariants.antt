-- `sweep_row` meets its contract: the rotations still to come lead from the matrices now to those at the end. Assumes nothing.
use Prim.Native.Nat.{◌+◌, ◌≤◌}
use Rattle.storage.specs.Iterate.{iterate}
use Rattle.jacobi.specs.Jacobi.{rotate_at}
use Rattle.jacobi.specs.JacobiLaws.{held, Becomes}
use Rattle.jacobi.proofs.sweep_row.Given as goal

abbrev pub invariant-loop-q : goal.invariant-loop-q
invariant-loop-q l = (l.p + 1 ≤ l.q) × Becomes (rotate_at l.n l.p) l.n l.q (iterate (rotate_at l.n l.p) (l.p + 1) l.n (held l.n l.initial.a l.initial.v)) l.initial.a l.initial.v l.a l.v
