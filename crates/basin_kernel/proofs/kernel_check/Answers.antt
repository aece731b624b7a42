-- `kernel_check` meets its contract: each way through it has its law. Assumes nothing.
use Rattle.storage.specs.Answers.{size_is}
use Rattle.storage.specs.Triangle.{table_size_most}
use Rattle.regions.specs.CheckLaws.{nodes_accepted}
use Rattle.basin_kernel.specs.CheckLaws.{wrong_lists, short_work, short_kc, short_ks, kernel_done}
use native.Mathlib.Omega.{arith}
use mathlib.Core.Path.{◌∙◌}
use Prim.Native.Nat.{◌≤◌}
use Rattle.refusal.proofs.Exits.{same_refusal}
use Rattle.basin_kernel.proofs.kernel_check.Goals as goal

pub overflow_mul-total : goal.overflow_mul-total
overflow_mul-total c =
    let d = c.in_ok-nodes_check_to.ensures in
    let t = nodes_accepted _ _ _ _ _ _ _ _ d in
    let z = c.table_size-total.ensures ∙ size_is _ (omega arith) in
    omega (arith, table_size_most _ (let h : c.args.lmax ≤ 2700 = omega arith in h))

pub returns-then-work-total : goal.returns-then-work-total
returns-then-work-total c =
    let d = c.in_ok-nodes_check_to.ensures in
    let t = nodes_accepted _ _ _ _ _ _ _ _ d in
    let z = c.table_size-total.ensures ∙ size_is _ (omega arith) in
    short_work _ _ _ _ _ _ _ _ _ _ d (omega arith)

pub returns-then-kc-total : goal.returns-then-kc-total
returns-then-kc-total c =
    let d = c.in_ok-nodes_check_to.ensures in
    let t = nodes_accepted _ _ _ _ _ _ _ _ d in
    let z = c.table_size-total.ensures ∙ size_is _ (omega arith) in
    short_kc _ _ _ _ _ _ _ _ _ _ d (omega arith) (omega arith)

pub returns-then-ks-total : goal.returns-then-ks-total
returns-then-ks-total c =
    let d = c.in_ok-nodes_check_to.ensures in
    let t = nodes_accepted _ _ _ _ _ _ _ _ d in
    let z = c.table_size-total.ensures ∙ size_is _ (omega arith) in
    short_ks _ _ _ _ _ _ _ _ _ _ d (omega arith) (omega arith) (omega arith)

pub returns-in_err-nodes_check_to : goal.returns-in_err-nodes_check_to
returns-in_err-nodes_check_to c = same_refusal c.from_residual.ensures.1 (wrong_lists _ _ _ _ _ _ _ _ _ _ _ c.in_err-nodes_check_to.ensures)

pub returns : goal.returns
returns c =
    let d = c.in_ok-nodes_check_to.ensures in
    let t = nodes_accepted _ _ _ _ _ _ _ _ d in
    let z = c.table_size-total.ensures ∙ size_is _ (omega arith) in
    kernel_done _ _ _ _ _ _ _ _ _ _ d (omega arith) (omega arith) (omega arith)
