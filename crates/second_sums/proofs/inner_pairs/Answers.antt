-- `inner_pairs` meets its contract: the pairs of the orders below m are stored, those above are as they were. Assumes nothing.
use Rattle.second_sums.specs.Pairs.{pair_more, pair_inner}
use Rattle.recursion.specs.Recursion.{step}
use Rattle.storage.specs.Filled.{filled_none, filled_to, filled_after}
use lib.ListN.{get_or, length-set}
use lib.Ieee.{Float, nan}
use native.Mathlib.Omega.{arith}
use mathlib.Core.Path.{refl, ap₂, ◌∙◌}
use Prim.Native.Nat.{◌+◌}
use Rattle.second_sums.proofs.inner_pairs.Goals as goal

pub loop-m-init : goal.loop-m-init
loop-m-init c = (omega arith, filled_to filled_none (omega arith))

pub overflow_add-newer : goal.overflow_add-newer
overflow_add-newer c = omega (arith, c.requires, c.well_formed, c.loop-m.invariant.0, c.loop-m.invariant.1.long, c.loop-m-test.true)

pub offset_bounds-rows-m : goal.offset_bounds-rows-m
offset_bounds-rows-m c = omega (arith, c.requires, c.well_formed, c.loop-m.invariant.0, c.loop-m.invariant.1.long, c.loop-m-test.true)

pub bounds-rows-m : goal.bounds-rows-m
bounds-rows-m c = omega (arith, c.requires, c.well_formed, c.loop-m.invariant.0, c.loop-m.invariant.1.long, c.loop-m-test.true)

pub overflow_add-older : goal.overflow_add-older
overflow_add-older c = omega (arith, c.requires, c.well_formed, c.loop-m.invariant.0, c.loop-m.invariant.1.long, c.loop-m-test.true)

pub overflow_add-older-in-loop-m : goal.overflow_add-older-in-loop-m
overflow_add-older-in-loop-m c = omega (arith, c.requires, c.well_formed, c.loop-m.invariant.0, c.loop-m.invariant.1.long, c.loop-m-test.true)

pub offset_bounds-rows-m-in-loop-m : goal.offset_bounds-rows-m-in-loop-m
offset_bounds-rows-m-in-loop-m c = omega (arith, c.requires, c.well_formed, c.loop-m.invariant.0, c.loop-m.invariant.1.long, c.loop-m-test.true)

pub bounds-rows-m-in-loop-m : goal.bounds-rows-m-in-loop-m
bounds-rows-m-in-loop-m c = omega (arith, c.requires, c.well_formed, c.loop-m.invariant.0, c.loop-m.invariant.1.long, c.loop-m-test.true)

pub overflow_add-rows : goal.overflow_add-rows
overflow_add-rows c = omega (arith, c.requires, c.well_formed, c.loop-m.invariant.0, c.loop-m.invariant.1.long, c.loop-m-test.true)

pub offset_bounds-a-at : goal.offset_bounds-a-at
offset_bounds-a-at c = omega (arith, c.requires, c.well_formed, c.loop-m.invariant.0, c.loop-m.invariant.1.long, c.loop-m-test.true)

pub bounds-a-at : goal.bounds-a-at
bounds-a-at c = omega (arith, c.requires, c.well_formed, c.loop-m.invariant.0, c.loop-m.invariant.1.long, c.loop-m-test.true)

pub overflow_add-rows-in-loop-m : goal.overflow_add-rows-in-loop-m
overflow_add-rows-in-loop-m c = omega (arith, c.requires, c.well_formed, c.loop-m.invariant.0, c.loop-m.invariant.1.long, c.loop-m-test.true)

pub offset_bounds-b-at : goal.offset_bounds-b-at
offset_bounds-b-at c = omega (arith, c.requires, c.well_formed, c.loop-m.invariant.0, c.loop-m.invariant.1.long, c.loop-m-test.true)

pub bounds-b-at : goal.bounds-b-at
bounds-b-at c = omega (arith, c.requires, c.well_formed, c.loop-m.invariant.0, c.loop-m.invariant.1.long, c.loop-m-test.true)

pub overflow_add-rows-in-loop-m-2 : goal.overflow_add-rows-in-loop-m-2
overflow_add-rows-in-loop-m-2 c = omega (arith, c.requires, c.well_formed, c.loop-m.invariant.0, c.loop-m.invariant.1.long, c.loop-m-test.true)

pub offset_bounds-rows-m-in-loop-m-2 : goal.offset_bounds-rows-m-in-loop-m-2
offset_bounds-rows-m-in-loop-m-2 c = omega (arith, c.requires, c.well_formed, c.loop-m.invariant.0, c.loop-m.invariant.1.long, c.loop-m-test.true)

pub bounds-rows-m-in-loop-m-2 : goal.bounds-rows-m-in-loop-m-2
bounds-rows-m-in-loop-m-2 c = omega (arith, c.requires, c.well_formed, c.loop-m.invariant.0, c.loop-m.invariant.1.long, c.loop-m-test.true)

pub overflow_add-rows-in-loop-m-3 : goal.overflow_add-rows-in-loop-m-3
overflow_add-rows-in-loop-m-3 c = omega (arith, c.requires, c.well_formed, c.loop-m.invariant.0, c.loop-m.invariant.1.long, c.loop-m-test.true)

pub overflow_add-rows-in-loop-m-4 : goal.overflow_add-rows-in-loop-m-4
overflow_add-rows-in-loop-m-4 c = omega (arith, c.requires, c.well_formed, c.loop-m.invariant.0, c.loop-m.invariant.1.long, c.loop-m-test.true)

pub offset_bounds-rows-m-in-loop-m-3 : goal.offset_bounds-rows-m-in-loop-m-3
offset_bounds-rows-m-in-loop-m-3 c = omega (arith, c.requires, c.well_formed, c.loop-m.invariant.0, c.loop-m.invariant.1.long, c.loop-m-test.true)

pub bounds-rows-m-in-loop-m-3 : goal.bounds-rows-m-in-loop-m-3
bounds-rows-m-in-loop-m-3 c = simp length-set (omega (arith, c.requires, c.well_formed, c.loop-m.invariant.0, c.loop-m.invariant.1.long, c.loop-m-test.true))

pub loop-m-smaller : goal.loop-m-smaller
loop-m-smaller c = omega (arith, c.loop-m-test.true)

pub loop-m-preserved : goal.loop-m-preserved
loop-m-preserved c =
    let a = c.args in
    let l = c.loop-m in
    let f = l.invariant.1 in
    let m = l.m in
    let am = get_or a.a.now (a.at + m) nan in
    let bm = get_or a.b.now (a.at + m) nan in
    let newer = filled_after (m + m) nan f (omega arith) in
    let older = filled_after (m + m + 1) nan f (omega arith) in (
      omega (arith, c.loop-m-test.true),
      pair_more a.n a.at a.t a.pmm a.a.now a.b.now a.rows.now m f refl refl
          (ap₂ (λ (x y : Float). step am bm a.t y x) newer older
          ∙ pair_inner a.n a.at a.t a.pmm a.a.now a.b.now a.rows.now m (omega (arith, c.loop-m-test.true))) newer,
    )

pub returns : goal.returns
returns c = filled_to c.loop-m.invariant.1 (omega (arith, c.loop-m.invariant.0, c.loop-m-test.false))
