-- `write_distinct` meets its contract: what is kept of the numbers before i is written. Assumes nothing.
use Rattle.polygon.specs.Outline.{is_first, number_at, distinct}
use Rattle.polygon.specs.PickedLaws.{picked_none, picked_within, all_picked}
use Rattle.ranking.specs.Places.{rising}
use Rattle.ranking.specs.Rising.{length-rising}
use native.Mathlib.Omega.{arith}
use mathlib.Core.Path.{refl, ◌∙◌}
use Prim.Native.Nat.{◌+◌}
use lib.ListN.{length}
use Rattle.polygon.proofs.colatitudes.write_distinct.Goals as goal

pub loop-i-init : goal.loop-i-init
loop-i-init c = (omega arith, refl, picked_none _ _)

pub write_first-k-requires : goal.write_first-k-requires
unfolding distinct
write_first-k-requires c =
    let i = c.loop-i.invariant in
    let l = rising c.args.keys.now in
    let n = length-rising c.args.keys.now in
    let m = picked_within (is_first l) (number_at l) (c.loop-i.i + 1) (length l) (omega arith) in
    record { i_in_bounds_1 = omega arith; i_in_bounds_2 = omega arith; i_in_bounds_3 = omega arith; i_in_bounds_4 = c.requires.fact_3; k_le_i_1 = i.2.most; k_le_i_2 = i.2.count; k_le_i_3 = omega (arith, m, i.1, c.requires.fact_4) }

pub loop-i-preserved : goal.loop-i-preserved
loop-i-preserved c =
    let w = c.write_first-k.ensures in
    (omega arith, w.long ∙ c.loop-i.invariant.1, w.goes _ c.loop-i.invariant.2)

pub returns : goal.returns
unfolding distinct
returns c = all_picked _ _ c.loop-i.invariant.2 (omega (arith, length-rising c.args.keys.now))
