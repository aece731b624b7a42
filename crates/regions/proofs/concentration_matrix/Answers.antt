-- `concentration_matrix` meets its contract: past the checks the matrix is written; that it is symmetric follows from its equation. Assumes nothing.
use mathlib.Core.Path.{refl}
use lib.ListN.{length}
use Rattle.regions.specs.CheckLaws.{matrix_accepted, symmetric}
use Rattle.refusal.proofs.Exits.{same_refusal}
use Rattle.regions.proofs.concentration_matrix.Goals as goal

pub fill_matrix-requires : goal.fill_matrix-requires
fill_matrix-requires c =
    let all = matrix_accepted _ _ _ _ _ _ _ _ _ c.in_ok-matrix_check.ensures in
    record { fact_1 = all.0; fact_2 = all.1 }

pub returns-in_err-matrix_check : goal.returns-in_err-matrix_check
returns-in_err-matrix_check c =
    let a = c.args in
    let e = c.in_err-matrix_check.ensures in
    rw (same_refusal c.from_residual.ensures.1 refl) (record { value = e; matrix_after = refl; symmetric = symmetric a.lmax a.nodes a.weights.now a.latitudes.now a.marks.now a.s.now a.c.now (length a.work.now) a.matrix.now e refl; work_unchanged = refl })

pub returns : goal.returns
returns c =
    let a = c.args in
    let e = c.in_ok-matrix_check.ensures in
    let made = c.fill_matrix.ensures in
    record { value = e; matrix_after = made.is; symmetric = symmetric a.lmax a.nodes a.weights.now a.latitudes.now a.marks.now a.s.now a.c.now (length a.work.now) a.matrix.now e made.is; work_unchanged = refl }
