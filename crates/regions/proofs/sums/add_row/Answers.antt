-- `add_row` meets its contract: the degrees below k are added. Assumes nothing.
use native.Mathlib.Omega.{arith}
use mathlib.Core.Path.{◌≡◌, refl, ap, ◌∙◌}
use Prim.Native.Nat.{ℕ, ◌-◌, ◌*◌, ◌≤◌}
use Rattle.storage.specs.Filled.{Filled, filled_none, filled_to}
use Rattle.regions.specs.Sums.{added_row, degree_before, row_more}
use Rattle.regions.proofs.sums.add_row.Goals as goal

pub loop-k-init : goal.loop-k-init
loop-k-init c = (omega arith, omega arith, filled_none)

pub overflow_add-at : goal.overflow_add-at
overflow_add-at c =
    let up = degree_before c.loop-k.k c.args.l c.loop-k-test.true in
    omega (arith, up, c.loop-k.invariant.1)

pub add_run-requires : goal.add_run-requires
add_run-requires c =
    let up = degree_before c.loop-k.k c.args.l c.loop-k-test.true in
    record { fact_1 = omega (arith, up, c.loop-k.invariant.1); fact_2 = omega arith; fact_3 = omega (arith, up, c.loop-k.invariant.1, c.loop-k.invariant.2.long) }

pub overflow_add-first : goal.overflow_add-first
overflow_add-first c =
    let up = degree_before c.loop-k.k c.args.l c.loop-k-test.true in
    omega (arith, up, c.loop-k.invariant.1)

pub overflow_add-first-in-loop-k : goal.overflow_add-first-in-loop-k
overflow_add-first-in-loop-k c =
    let up = degree_before c.loop-k.k c.args.l c.loop-k-test.true in
    omega (arith, up, c.loop-k.invariant.1)

pub overflow_add-first-in-loop-k-2 : goal.overflow_add-first-in-loop-k-2
overflow_add-first-in-loop-k-2 c =
    let up = degree_before c.loop-k.k c.args.l c.loop-k-test.true in
    omega (arith, up, c.loop-k.invariant.1)

pub loop-k-preserved : goal.loop-k-preserved
loop-k-preserved c = (
  omega arith,
  omega (arith, c.loop-k.invariant.1),
  filled_to (row_more _ _ _ _ _ _ _ _ (omega arith) (omega arith) c.loop-k.invariant.1 refl c.loop-k.invariant.2 c.add_run.ensures) (omega arith),
)

pub overflow_add-at-2 : goal.overflow_add-at-2
overflow_add-at-2 c =
    let e : c.loop-k.k ≡ c.args.l = omega arith in
    let same = c.loop-k.invariant.1 ∙ ap (λ (i : ℕ). i * i) e in
    omega (arith, same)

pub add_run-requires-2 : goal.add_run-requires-2
add_run-requires-2 c =
    let e : c.loop-k.k ≡ c.args.l = omega arith in
    let same = c.loop-k.invariant.1 ∙ ap (λ (i : ℕ). i * i) e in
    record { fact_1 = omega (arith, same); fact_2 = omega arith; fact_3 = omega (arith, same, c.loop-k.invariant.2.long) }

pub returns : goal.returns
returns c =
    let e : c.loop-k.k ≡ c.args.l = omega arith in
    let same = c.loop-k.invariant.1 ∙ ap (λ (i : ℕ). i * i) e in
    filled_to
    (row_more _ _ _ _ _ _ _ c.args.l (omega arith) (omega arith) same refl c.loop-k.invariant.2 c.add_run-2.ensures) (omega (arith, same))
