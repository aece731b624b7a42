-- `recursion::b_row` meets its contract: the orders below m are written, and 0 at the last two. Assumes nothing.
use lib.ListN.{length-set}
use Rattle.number.specs.Float64.{of_whole}
use Rattle.number.specs.Whole.{whole, whole_zero, whole_next}
use Rattle.storage.specs.Filled.{Filled, filled_none, filled_one, filled_more, filled_to}
use Rattle.recursion.specs.Recursion.{b_cell}
use Rattle.recursion.specs.RecursionLaws.{b_below, b_top}
use borrow.Author.Rules.{rules}
use native.Mathlib.Omega.{arith}
use mathlib.Core.Path.{◌≡◌, refl, ◌∙◌}
use Prim.Native.Nat.{◌+◌, ◌-◌, ◌≤◌}
use Rattle.recursion.proofs.b_row.Goals as goal

pub returns-then-n-eq0 : goal.returns-then-n-eq0
returns-then-n-eq0 c =
    let a = c.args in
    let e = c.if-n-eq0.true in
    filled_to (filled_one a.b.now (b_top a.n 0 (omega arith))) (omega arith)

pub int_to_float-nf : goal.int_to_float-nf
int_to_float-nf c = whole _ (omega arith)

pub loop-m-init : goal.loop-m-init
loop-m-init c = (omega arith, whole_zero, filled_none)

pub loop-m-preserved : goal.loop-m-preserved
loop-m-preserved c =
    let a = c.args in
    let l = c.loop-m in
    let v = c.root_near.ensures ∙ b_below a.n l.m l.invariant.1 (omega arith) in
    (omega arith, whole_next l.m l.invariant.1 (omega arith), filled_more l.invariant.2 refl v)

pub bounds-b-at-3 : goal.bounds-b-at-3
bounds-b-at-3 c = simp length-set (omega arith)

pub returns : goal.returns
returns c =
    let a = c.args in
    let l = c.loop-m in
    let r = filled_more (filled_to l.invariant.2 (omega arith)) refl (b_top a.n (a.n - 1) (omega arith)) in
    filled_to (filled_more r (omega arith) (b_top a.n (a.n - 1 + 1) (omega arith))) (omega arith)
