-- `next_pairs` meets its contract: the inner pairs, the second number of a column, the sectoral number. Assumes nothing.
use Rattle.second_sums.specs.Pairs.{pair_more, pair_second, pairs_last}
use Rattle.number.specs.Float64.{zero64}
use Rattle.recursion.specs.Recursion.{step}
use Rattle.storage.specs.Filled.{filled_none, filled_to, filled_after}
use lib.ListN.{get_or, length-set}
use lib.Ieee.{Float, nan}
use native.Mathlib.Omega.{arith}
use mathlib.Core.Path.{◌≡◌, refl, ap, ◌∙◌}
use Prim.Native.Nat.{◌+◌, ◌-◌}
use Rattle.second_sums.proofs.next_pairs.Goals as goal

pub returns-then-n-eq0 : goal.returns-then-n-eq0
returns-then-n-eq0 c =
    let a = c.args in
    let e = c.if-n-eq0.true in
    pairs_last a.n a.at a.t a.pmm a.a.now a.b.now a.rows.now (filled_to filled_none (omega (arith, e))) (omega (arith, e))

pub inner_pairs-requires : goal.inner_pairs-requires
inner_pairs-requires c = record { fact_1 = omega (arith, c.requires, c.if-n-eq0.false); fact_2 = omega (arith, c.requires, c.if-n-eq0.false); fact_3 = omega (arith, c.requires, c.if-n-eq0.false); fact_4 = omega (arith, c.requires, c.if-n-eq0.false); fact_5 = omega (arith, c.requires, c.if-n-eq0.false) }

pub overflow_add-newer : goal.overflow_add-newer
overflow_add-newer c = omega (arith, c.requires, c.well_formed, c.if-n-eq0.false, c.inner_pairs.ensures.long)

pub offset_bounds-rows-m : goal.offset_bounds-rows-m
offset_bounds-rows-m c = omega (arith, c.requires, c.well_formed, c.if-n-eq0.false, c.inner_pairs.ensures.long)

pub bounds-rows-m : goal.bounds-rows-m
bounds-rows-m c = omega (arith, c.requires, c.well_formed, c.if-n-eq0.false, c.inner_pairs.ensures.long)

pub overflow_add-rows : goal.overflow_add-rows
overflow_add-rows c = omega (arith, c.requires, c.well_formed, c.if-n-eq0.false, c.inner_pairs.ensures.long)

pub offset_bounds-a-at : goal.offset_bounds-a-at
offset_bounds-a-at c = omega (arith, c.requires, c.well_formed, c.if-n-eq0.false, c.inner_pairs.ensures.long)

pub bounds-a-at : goal.bounds-a-at
bounds-a-at c = omega (arith, c.requires, c.well_formed, c.if-n-eq0.false, c.inner_pairs.ensures.long)

pub overflow_add-rows-2 : goal.overflow_add-rows-2
overflow_add-rows-2 c = omega (arith, c.requires, c.well_formed, c.if-n-eq0.false, c.inner_pairs.ensures.long)

pub offset_bounds-b-at : goal.offset_bounds-b-at
offset_bounds-b-at c = omega (arith, c.requires, c.well_formed, c.if-n-eq0.false, c.inner_pairs.ensures.long)

pub bounds-b-at : goal.bounds-b-at
bounds-b-at c = omega (arith, c.requires, c.well_formed, c.if-n-eq0.false, c.inner_pairs.ensures.long)

pub overflow_add-rows-3 : goal.overflow_add-rows-3
overflow_add-rows-3 c = omega (arith, c.requires, c.well_formed, c.if-n-eq0.false, c.inner_pairs.ensures.long)

pub offset_bounds-rows-m-2 : goal.offset_bounds-rows-m-2
offset_bounds-rows-m-2 c = omega (arith, c.requires, c.well_formed, c.if-n-eq0.false, c.inner_pairs.ensures.long)

pub bounds-rows-m-2 : goal.bounds-rows-m-2
bounds-rows-m-2 c = omega (arith, c.requires, c.well_formed, c.if-n-eq0.false, c.inner_pairs.ensures.long)

pub overflow_add-rows-4 : goal.overflow_add-rows-4
overflow_add-rows-4 c = omega (arith, c.requires, c.well_formed, c.if-n-eq0.false, c.inner_pairs.ensures.long)

pub overflow_add-rows-5 : goal.overflow_add-rows-5
overflow_add-rows-5 c = omega (arith, c.requires, c.well_formed, c.if-n-eq0.false, c.inner_pairs.ensures.long)

pub offset_bounds-rows-m-3 : goal.offset_bounds-rows-m-3
offset_bounds-rows-m-3 c = omega (arith, c.requires, c.well_formed, c.if-n-eq0.false, c.inner_pairs.ensures.long)

pub bounds-rows-m-3 : goal.bounds-rows-m-3
bounds-rows-m-3 c = simp length-set (omega (arith, c.requires, c.well_formed, c.if-n-eq0.false, c.inner_pairs.ensures.long))

pub overflow_add-rows-6 : goal.overflow_add-rows-6
overflow_add-rows-6 c = omega (arith, c.requires, c.well_formed, c.if-n-eq0.false, c.inner_pairs.ensures.long)

pub offset_bounds-rows-n : goal.offset_bounds-rows-n
offset_bounds-rows-n c = omega (arith, c.requires, c.well_formed, c.if-n-eq0.false, c.inner_pairs.ensures.long)

pub bounds-rows-n : goal.bounds-rows-n
bounds-rows-n c = simp length-set (omega (arith, c.requires, c.well_formed, c.if-n-eq0.false, c.inner_pairs.ensures.long))

pub returns : goal.returns
returns c =
    let a = c.args in
    let f = c.inner_pairs.ensures in
    let test = c.if-n-eq0.false in
    let m = a.n - 1 in
    let am = get_or a.a.now (a.at + m) nan in
    let bm = get_or a.b.now (a.at + m) nan in
    let newer = filled_after (m + m) nan f (omega arith) in
    let e : m + 1 ≡ a.n = omega (arith, test) in
    let second =
    pair_more a.n a.at a.t a.pmm a.a.now a.b.now a.rows.now m f refl refl
    (ap (λ (x : Float). step am bm a.t zero64 x) newer ∙ pair_second a.n a.at a.t a.pmm a.a.now a.b.now a.rows.now m e)
    newer in
    pairs_last a.n a.at a.t a.pmm a.a.now a.b.now a.rows.now (filled_to second (omega (arith, e))) refl
