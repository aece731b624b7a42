-- `matrix_check` meets its contract: each way through it has its law. Assumes nothing.
use native.Mathlib.Omega.{arith}
use mathlib.Core.Path.{ap, ◌∙◌}
use Prim.Native.Nat.{ℕ, ◌*◌, ◌≤◌}
use native.Mathlib.Nat.{mul-le-mul}
use Rattle.storage.specs.Answers.{size_is}
use Rattle.storage.specs.Triangle.{table_size_most}
use Rattle.regions.specs.CheckLaws.{nodes_accepted, matrix_lists, short_work, short_matrix, matrix_done}
use Rattle.refusal.proofs.Exits.{same_refusal}
use Rattle.regions.proofs.matrix_check.Goals as goal

pub basis_size-n-requires : goal.basis_size-n-requires
basis_size-n-requires c = (nodes_accepted _ _ _ _ _ _ _ _ c.in_ok-nodes_check.ensures).top

pub overflow_mul-table_size : goal.overflow_mul-table_size
overflow_mul-table_size c =
    let t = nodes_accepted _ _ _ _ _ _ _ _ c.in_ok-nodes_check.ensures in
    let z = c.table_size.ensures ∙ size_is _ (omega arith) in
    omega (arith, table_size_most _ (let h : c.args.lmax ≤ 2700 = omega arith in h))

pub returns-then-work-table_size : goal.returns-then-work-table_size
returns-then-work-table_size c =
    let t = nodes_accepted _ _ _ _ _ _ _ _ c.in_ok-nodes_check.ensures in
    let z = c.table_size.ensures ∙ size_is _ (omega arith) in
    short_work _ _ _ _ _ _ _ _ _ c.in_ok-nodes_check.ensures (omega arith)

pub overflow_mul-n : goal.overflow_mul-n
overflow_mul-n c = let h = c.basis_size-n.ensures.fact_2 in omega (arith, mul-le-mul h h)

pub returns-then-matrix-n : goal.returns-then-matrix-n
returns-then-matrix-n c =
    let t = nodes_accepted _ _ _ _ _ _ _ _ c.in_ok-nodes_check.ensures in
    let z = c.table_size.ensures ∙ size_is _ (omega arith) in
    let q = ap (λ (k : ℕ). k * k) c.basis_size-n.ensures.fact_1 in
    short_matrix _ _ _ _ _ _ _ _ _ c.in_ok-nodes_check.ensures (omega arith) (omega arith)

pub returns-in_err-nodes_check : goal.returns-in_err-nodes_check
returns-in_err-nodes_check c = same_refusal c.from_residual.ensures.1 (matrix_lists _ _ _ _ _ _ _ _ _ _ c.in_err-nodes_check.ensures)

pub returns : goal.returns
returns c =
    let t = nodes_accepted _ _ _ _ _ _ _ _ c.in_ok-nodes_check.ensures in
    let z = c.table_size.ensures ∙ size_is _ (omega arith) in
    let q = ap (λ (k : ℕ). k * k) c.basis_size-n.ensures.fact_1 in
    matrix_done _ _ _ _ _ _ _ _ _ c.in_ok-nodes_check.ensures (omega arith) (omega arith)
