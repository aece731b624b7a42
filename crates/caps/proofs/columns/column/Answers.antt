-- `column` meets its contract: the last number of the column and the one before it. Assumes nothing.
use Rattle.caps.specs.Columns.{column_cell, column_first, before_first, before_next, column_more, next_at}
use Rattle.storage.specs.Filled.{filled_none, filled_more, filled_to}
use Rattle.storage.specs.Elements.{from}
use Rattle.storage.specs.Triangle.{idx}
use Rattle.recursion.specs.Recursion.{q}
use Rattle.number.specs.Float64.{◌⊗◌}
use lib.Ieee.{Float, nan}
use native.Mathlib.Omega.{arith}
use mathlib.Core.Path.{◌≡◌, sym, ap, ◌∙◌}
use Prim.Native.Nat.{ℕ, ◌+◌}
use Rattle.caps.proofs.columns.column.Goals as goal

pub loop-i-init : goal.loop-i-init
loop-i-init c =
    let a = c.args in
    let A = from 0 a.work.now nan in
    let B = from a.total a.work.now nan in
    let z : a.m + 0 ≡ a.m = omega arith in (
      omega arith,
      c.requires.fact_2 ∙ ap (λ (j : ℕ). idx j a.m) (sym z),
      c.requires.fact_1 ∙ column_first A B a.t a.m,
      before_first A B a.t
          a.m,
      filled_none,
    )

pub overflow_add-at : goal.overflow_add-at
overflow_add-at c = let s = next_at c.args.m c.args.k c.loop-i.i c.loop-i.invariant.1
    c.loop-i-test.true in omega (arith, s.is, s.inside)

pub overflow_add-at-in-loop-i : goal.overflow_add-at-in-loop-i
overflow_add-at-in-loop-i c = let s = next_at c.args.m c.args.k c.loop-i.i c.loop-i.invariant.1
    c.loop-i-test.true in omega (arith, s.is, s.inside)

pub overflow_add-at-in-loop-i-2 : goal.overflow_add-at-in-loop-i-2
overflow_add-at-in-loop-i-2 c = let s = next_at c.args.m c.args.k c.loop-i.i c.loop-i.invariant.1
    c.loop-i-test.true in omega (arith, s.is, s.inside)

pub offset_bounds-work-at : goal.offset_bounds-work-at
offset_bounds-work-at c = let s = next_at c.args.m c.args.k c.loop-i.i c.loop-i.invariant.1
    c.loop-i-test.true in omega (arith, s.is, s.inside)

pub bounds-work-at : goal.bounds-work-at
bounds-work-at c = let s = next_at c.args.m c.args.k c.loop-i.i
    c.loop-i.invariant.1 c.loop-i-test.true in omega (arith, s.is, s.inside)

pub overflow_add-q : goal.overflow_add-q
overflow_add-q c = let s = next_at c.args.m c.args.k c.loop-i.i
    c.loop-i.invariant.1 c.loop-i-test.true in omega (arith, s.is, s.inside)

pub offset_bounds-work-total : goal.offset_bounds-work-total
offset_bounds-work-total c = let s = next_at c.args.m c.args.k c.loop-i.i
    c.loop-i.invariant.1 c.loop-i-test.true in omega (arith, s.is, s.inside)

pub bounds-work-total : goal.bounds-work-total
bounds-work-total c = let s = next_at c.args.m c.args.k
    c.loop-i.i c.loop-i.invariant.1 c.loop-i-test.true in omega
    (arith, s.is, s.inside)

pub loop-i-preserved : goal.loop-i-preserved
unfolding column_cell
loop-i-preserved c =
    let a = c.args in
    let i = c.loop-i.i in
    let A = from 0 a.work.now nan in
    let B = from a.total a.work.now nan in
    let s = next_at a.m a.k i c.loop-i.invariant.1 c.loop-i-test.true in (
      omega arith,
      s.is,
      column_more a.work.now a.total a.t a.m i s.is c.loop-i.invariant.2 c.loop-i.invariant.3,
      c.loop-i.invariant.2 ∙ before_next A B a.t a.m i,
      filled_more c.loop-i.invariant.4 (omega arith) (ap (λ (v : Float). v ⊗ a.rescale) c.loop-i.invariant.2),
    )

pub returns : goal.returns
returns c = filled_to c.loop-i.invariant.4 (omega arith)
