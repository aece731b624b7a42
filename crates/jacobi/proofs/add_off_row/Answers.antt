-- `add_off_row` meets its contract: the same, from column p + 1 on. Assumes nothing.
use lib.Ieee.{Float}
use borrow.Author.Rules.{rules}
use native.Mathlib.Omega.{arith}
use mathlib.Core.Path.{◌≡◌, refl, sym, ap, ◌∙◌}
use Prim.Native.Nat.{ℕ, ◌+◌, ◌-◌, ◌≤◌}
use Rattle.matrix.specs.Layout.{read_plain, plain}
use Rattle.number.specs.Float64.{◌⊕◌, ◌⊗◌}
use Rattle.storage.specs.Iterate.{iterate, iterate_step, iterate_done}
use Rattle.jacobi.specs.Jacobi.{add_off_square, add_off_row}
use Rattle.jacobi.proofs.add_off_row.Goals as goal

pub loop-q-init : goal.loop-q-init
loop-q-init c = (omega arith, refl)

pub loop-q-preserved : goal.loop-q-preserved
unfolding add_off_square
loop-q-preserved c =
    let a = c.args in
    let l = c.loop-q in
    let at = ap (λ (i : ℕ). i + l.q) c.row-at.ensures.is in
    let x = read_plain a.n a.a.now a.p l.q at (omega arith) c.loop-q-test.true in
    let f : ℕ → Float → Float = add_off_square a.n (plain a.n a.a.now) a.p in
    let more = sym (iterate_step f l.q a.n l.t c.loop-q-test.true) in
    (omega arith, ap (λ (y : Float). iterate f (l.q + 1) a.n (l.t ⊕ y ⊗ y)) x ∙ more ∙ l.invariant.1)

pub returns : goal.returns
unfolding add_off_row
returns c = sym (iterate_done _ _ _ _ c.loop-q-test.false) ∙ c.loop-q.invariant.1
