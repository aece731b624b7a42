-- `rotate_rows` meets its contract: the rows are runs that lie apart. Assumes nothing.
use native.Mathlib.Nat.{mul-le-mul_right}
use native.Mathlib.Omega.{arith}
use borrow.Author.Rules.{rules}
use Rattle.matrix.specs.Layout.{rows_rotated_lem}
use Rattle.matrix.proofs.rotate_rows.Goals as goal

pub rotate_runs-requires : goal.rotate_runs-requires
rotate_runs-requires c =
    let a = c.args in
    record { fact_1 = omega (arith, mul-le-mul_right a.n c.requires.fact_2); fact_2 = omega arith }

pub returns : goal.returns
returns c =
    let a = c.args in
    let p = c.row.ensures.is in
    let q = c.row-2.ensures.is in
    rows_rotated_lem a.n a.p a.q c.rotate_runs.ensures p q (omega arith) (omega arith) (omega arith)
