-- `degrees::two_degree_sums` meets its contract: both sums so far are those of the orders below `order`. Assumes nothing.
use Rattle.coefficients.specs.Values.{squares_from, squares_product}
use Rattle.number.specs.Float64.{◌⊕◌, zero64}
use Rattle.storage.specs.Fold.{fold_left, fold_none, fold_more}
use native.Mathlib.Omega.{arith}
use mathlib.Core.Path.{◌≡◌, sym, ap, ◌∙◌}
use Prim.Native.Nat.{ℕ, ◌+◌, ◌-◌, ◌≤◌}
use Rattle.coefficients.proofs.degrees.two_degree_sums.Goals as goal

pub loop-order-init : goal.loop-order-init
loop-order-init c =
    let a = c.args in
    let none : (at : ℕ) → zero64 ≡ fold_left ◌⊕◌ (squares_from at a.c.now a.s.now) zero64 0
    = λ at. sym (fold_none ◌⊕◌ (squares_from at a.c.now a.s.now) zero64) in
    (omega arith, none a.at, none (a.at + a.n + 1))

pub loop-order-preserved : goal.loop-order-preserved
loop-order-preserved c =
    let a = c.args in
    let m = c.loop-order.order in
    let next = a.at + a.n + 1 in (
      omega arith,
      cc (squares_product a.at a.c.now a.s.now m, fold_more ◌⊕◌ (squares_from a.at a.c.now a.s.now) zero64 m),
      cc (squares_product next a.c.now a.s.now m, fold_more ◌⊕◌ (squares_from next a.c.now a.s.now) zero64 m),
    )

pub returns : goal.returns
returns c =
    let a = c.args in
    let next = a.at + a.n + 1 in
    let e : c.loop-order.order ≡ a.n + 1 = omega arith in record { fact_1 = c.loop-order.invariant.1 ∙ ap (fold_left ◌⊕◌ (squares_from a.at a.c.now a.s.now) zero64) e; fact_2 = cc (e, squares_product next a.c.now a.s.now (a.n + 1), fold_more ◌⊕◌ (squares_from next a.c.now a.s.now) zero64 (a.n + 1)) }
