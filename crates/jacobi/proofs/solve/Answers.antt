-- `solve` meets its contract: what it writes is read of the state after the sweeps. Assumes nothing.
use native.Mathlib.Omega.{arith}
use Prim.Native.Nat.{◌+◌, ◌*◌}
use borrow.Author.Rules.{rules}
use Rattle.matrix.specs.Layout.{kept_from}
use Rattle.jacobi.specs.JacobiLaws.{solved_sweeps, solved_settled, solved_values, solved_vectors}
use Rattle.jacobi.proofs.solve.Goals as goal

pub returns : goal.returns
returns c =
    let a = c.args in
    let work = c.diagonalize-r.new.work in
    let vectors = c.diagonalize-r.new.vectors in
    let d = c.diagonalize-r.ensures in record { values_after = solved_values a.n a.a.now vectors work d.fact_1 c.diagonal.ensures (omega arith); vectors_after = solved_vectors a.n a.a.now vectors work d.fact_1 c.transpose.ensures (omega arith) d.fact_2; kept = kept_from (a.n * a.n + 4 * a.n) (omega arith) d.fact_3; sweeps_value_1 = solved_sweeps a.n a.a.now vectors work d.fact_1; sweeps_value_2 = solved_settled a.n a.a.now vectors work d.fact_1; sweeps_value_3 = d.fact_4 }
