-- `sweep` meets its contract: row by row. Assumes nothing.
use Rattle.storage.specs.Iterate.{iterate}
use Rattle.jacobi.specs.Jacobi.{sweep_row}
use Rattle.jacobi.specs.JacobiLaws.{held, Becomes}
use Rattle.jacobi.proofs.sweep.Given as goal

abbrev pub invariant-loop-p : goal.invariant-loop-p
invariant-loop-p l = Becomes (sweep_row l.n) l.n l.p (iterate (sweep_row l.n) 0 l.n (held l.n l.initial.a l.initial.v)) l.initial.a l.initial.v l.a l.v
