-- `basin_kernel` meets its contract: past the checks the tables are made, the kernel is cleared, and the nodes are added to it. Assumes nothing.
use Rattle.basin_kernel.specs.CheckLaws.{kernel_accepted, cleared, made_after, made_behind}
use Rattle.basin_kernel.specs.Working.{guesses_fit, front_lent, tables_in, tables_behind}
use Rattle.coefficients.specs.Model.{model_made, model_refused}
use Rattle.coefficients.specs.Values.{zero_head}
use Rattle.number.specs.Float64.{one64}
use Rattle.matrix.specs.Layout.{kept_then, kept_from}
use Rattle.storage.specs.Answers.{size_is}
use Rattle.storage.specs.Checks.{room_check}
use Rattle.storage.specs.Triangle.{table_size}
use Rattle.storage.specs.Filled.{filled_self, filled_again}
use native.Mathlib.Nat.{le_refl}
use lib.Seq.{length-take-le}
use native.Mathlib.Omega.{arith}
use mathlib.Core.Path.{refl, sym, ap, ◌∙◌}
use Prim.Native.Nat.{ℕ, ◌*◌}
use lib.ListN.{length}
use Rattle.refusal.proofs.Exits.{same_refusal}
use Rattle.basin_kernel.proofs.basin_kernel.Goals as goal

pub slice_bounds-tables_by-end : goal.slice_bounds-tables_by-end
slice_bounds-tables_by-end c =
    let fits = kernel_accepted _ _ _ _ _ _ _ _ _ _ c.in_ok-kernel_check.ensures in
    let size = c.table_size-total.ensures ∙ size_is c.args.lmax fits.lists.top in
    omega (arith, size, fits.of_kc)

pub slice_bounds-tables_by-end-2 : goal.slice_bounds-tables_by-end-2
slice_bounds-tables_by-end-2 c =
    let fits = kernel_accepted _ _ _ _ _ _ _ _ _ _ c.in_ok-kernel_check.ensures in
    let size = c.table_size-total.ensures ∙ size_is c.args.lmax fits.lists.top in
    sym (length-take-le c.table_size-total.result c.args.kc.now (omega (arith, size, fits.of_kc)))

pub tables_by-requires : goal.tables_by-requires
tables_by-requires c =
    let fits = kernel_accepted _ _ _ _ _ _ _ _ _ _ c.in_ok-kernel_check.ensures in
    let size = c.table_size-total.ensures ∙ size_is c.args.lmax fits.lists.top in
    let lent = length-take-le c.table_size-total.result c.args.kc.now (omega (arith, size, fits.of_kc)) in
    record { fact_1 = fits.lists.top; fact_2 = size; fact_3 = omega (arith, lent, size, guesses_fit c.args.lmax); fact_4 = omega (arith, size, fits.of_work) }

pub add_all-requires : goal.add_all-requires
add_all-requires c =
    let a = c.args in
    let done = c.in_ok-kernel_check.ensures in
    let fits = kernel_accepted _ _ _ _ _ _ _ _ _ _ done in
    let size = c.table_size-total.ensures ∙ size_is a.lmax fits.lists.top in
    let total = c.table_size-total.result in
    let tables = c.tables_by.ensures in
    let guesses = c.tables_by.new.guesses in
    let lent = c.tables_by.auto.guesses ∙ length-take-le total a.kc.now (omega (arith, size, fits.of_kc)) in
    let guessed = front_lent guesses a.kc.now lent (omega (arith, size, fits.of_kc)) in
    let room = fits.room ∙ ap (λ (k : ℕ). room_check a.lmax k (length a.ks.now)) (sym guessed.long) in
    let r = c.zeros-made.ensures.value in let x = c.zeros-made.ensures.c_after in let y = c.zeros-made.ensures.s_after in
    let (made, zc, zs) = cleared a.lmax (zero_head one64 one64 a.lmax) _ a.ks.now room r x y in
    let in-work = tables_in a.lmax a.work.now size tables (omega (arith, size, fits.of_work)) in record { node_lists_to_1 = fits.lists; node_lists_to_2 = in-work; node_lists_to_3 = omega (arith, fits.of_kc, zc.long, guessed.long); node_lists_to_4 = omega (arith, fits.of_ks, zs.long); filled_1 = filled_self zc; filled_2 = filled_self zs }

pub returns-in_err-kernel_check : goal.returns-in_err-kernel_check
returns-in_err-kernel_check c =
    let told = c.in_err-kernel_check.ensures in
    rw (same_refusal c.from_residual.ensures.1 refl) (record { value = model_refused _ _ told; kc_after = refl; ks_after = refl; work_unchanged_1 = refl; work_unchanged_2 = refl })

pub returns : goal.returns
returns c =
    let a = c.args in
    let done = c.in_ok-kernel_check.ensures in
    let fits = kernel_accepted _ _ _ _ _ _ _ _ _ _ done in
    let size = c.table_size-total.ensures ∙ size_is a.lmax fits.lists.top in
    let total = c.table_size-total.result in
    let tables = c.tables_by.ensures in
    let guesses = c.tables_by.new.guesses in
    let lent = c.tables_by.auto.guesses ∙ length-take-le total a.kc.now (omega (arith, size, fits.of_kc)) in
    let guessed = front_lent guesses a.kc.now lent (omega (arith, size, fits.of_kc)) in
    let room = fits.room ∙ ap (λ (k : ℕ). room_check a.lmax k (length a.ks.now)) (sym guessed.long) in
    let r = c.zeros-made.ensures.value in let x = c.zeros-made.ensures.c_after in let y = c.zeros-made.ensures.s_after in
    let (made, zc, zs) = cleared a.lmax (zero_head one64 one64 a.lmax) _ a.ks.now room r x y in
    let behind = tables_behind a.lmax a.work.now size tables (omega (arith, size, fits.of_work)) in
    let x' = c.add_all.ensures.filled_2 in let y' = c.add_all.ensures.filled_3 in let kept = c.add_all.ensures.kept in
    let all = kept_from (3 * table_size a.lmax) (omega (arith, size)) (kept_then behind kept) in
    let x₂ = filled_again guessed (filled_again zc x' (le_refl _)) (omega (arith, size)) in
    let y₂ = filled_again zs y' (le_refl _) in
    record { value = made ∙ model_made _ done; kc_after = made_after made _ _ x₂.is; ks_after = made_after made _ _ y₂.is; work_unchanged_1 = made_behind made all; work_unchanged_2 = all.long }
