-- `recursion::a_row` meets its contract: the orders below m are written, and 0 on the diagonal. Assumes nothing.
use lib.ListN.{length-set}
use Rattle.number.specs.Float64.{of_whole}
use Rattle.number.specs.Whole.{whole, whole_zero, whole_next}
use Rattle.storage.specs.Filled.{Filled, filled_none, filled_more, filled_to}
use Rattle.recursion.specs.Recursion.{a_cell}
use Rattle.recursion.specs.RecursionLaws.{a_below, a_diagonal}
use borrow.Author.Rules.{rules}
use native.Mathlib.Omega.{arith}
use mathlib.Core.Path.{◌≡◌, refl, ◌∙◌}
use Prim.Native.Nat.{◌-◌, ◌≤◌}
use Rattle.recursion.proofs.a_row.Goals as goal

pub int_to_float-nf : goal.int_to_float-nf
int_to_float-nf c = whole _ (omega arith)

pub loop-m-init : goal.loop-m-init
loop-m-init c = (omega arith, whole_zero, filled_none)

pub loop-m-preserved : goal.loop-m-preserved
loop-m-preserved c =
    let a = c.args in
    let l = c.loop-m in
    let v = c.root_near.ensures ∙ a_below a.n l.m l.invariant.1 (omega arith) in
    (omega arith, whole_next l.m l.invariant.1 (omega arith), filled_more l.invariant.2 refl v)

pub returns : goal.returns
returns c = filled_more (filled_to c.loop-m.invariant.2 (omega arith)) refl (a_diagonal c.args.n)
