-- `degrees::degree_sum` meets its contract: the sum so far is that of the orders below m. Assumes nothing.
use Rattle.coefficients.specs.Values.{squares_from, squares_product}
use Rattle.number.specs.Float64.{◌⊕◌, zero64}
use Rattle.storage.specs.Fold.{fold_left, fold_none, fold_more}
use native.Mathlib.Omega.{arith}
use mathlib.Core.Path.{◌≡◌, sym, ap, ◌∙◌}
use Prim.Native.Nat.{◌+◌, ◌-◌, ◌≤◌}
use Rattle.coefficients.proofs.degrees.degree_sum.Goals as goal

pub loop-m-init : goal.loop-m-init
loop-m-init c = (omega arith, sym (fold_none ◌⊕◌ (squares_from c.args.at c.args.c.now c.args.s.now) zero64))

pub loop-m-preserved : goal.loop-m-preserved
loop-m-preserved c =
    let a = c.args in
    let m = c.loop-m.m in (
      omega arith,
      cc (squares_product a.at a.c.now a.s.now m, fold_more ◌⊕◌ (squares_from a.at a.c.now a.s.now) zero64 m),
    )

pub returns : goal.returns
returns c =
    let a = c.args in
    let e : c.loop-m.m ≡ a.n + 1 = omega arith in
    c.loop-m.invariant.1 ∙ ap (fold_left ◌⊕◌ (squares_from a.at a.c.now a.s.now) zero64) e
