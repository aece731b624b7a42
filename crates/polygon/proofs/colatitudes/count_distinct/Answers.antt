-- `count_distinct` meets its contract: the numbers before i are counted. Assumes nothing.
use Rattle.polygon.specs.Outline.{is_first, number_at, distinct}
use Rattle.polygon.specs.Picked.{picked_before}
use Rattle.ranking.specs.Places.{rising}
use Rattle.ranking.specs.Rising.{length-rising}
use native.Mathlib.Omega.{arith}
use mathlib.Core.Path.{◌≡◌, refl, ap, ◌∙◌}
use Prim.Native.Nat.{ℕ}
use lib.ListN.{length}
use Rattle.polygon.proofs.colatitudes.count_distinct.Goals as goal

pub loop-i-init : goal.loop-i-init
unfolding picked_before
loop-i-init c = (omega arith, omega arith, refl)

pub count_first-k-requires : goal.count_first-k-requires
count_first-k-requires c = record { fact_1 = omega arith; fact_2 = omega arith; fact_3 = omega arith; fact_4 = omega arith; fact_5 = c.requires.fact_3 }

pub loop-i-preserved : goal.loop-i-preserved
loop-i-preserved c = (omega arith, omega (arith, c.count_first-k.ensures.most), c.count_first-k.ensures.goes c.loop-i.invariant.2)

pub returns : goal.returns
unfolding distinct
returns c =
    let l = rising c.args.keys.now in
    let e : c.loop-i.i ≡ length l = omega (arith, length-rising c.args.keys.now) in
    c.loop-i.invariant.2 ∙ ap (λ (j : ℕ). length (picked_before (is_first l) (number_at l) j)) e
