-- `count_crossings` meets its contract: the edges before i are counted. Assumes nothing.
use Rattle.polygon.specs.Outline.{crosses, crossing, crossings}
use Rattle.polygon.specs.Picked.{picked_before}
use native.Mathlib.Omega.{arith}
use mathlib.Core.Path.{◌≡◌, refl, ap, ◌∙◌}
use Prim.Native.Nat.{ℕ}
use lib.ListN.{length}
use Rattle.polygon.proofs.edges.count_crossings.Goals as goal

pub loop-i-init : goal.loop-i-init
unfolding picked_before
loop-i-init c = (omega arith, omega arith, refl)

pub loop-i-preserved : goal.loop-i-preserved
loop-i-preserved c = (omega arith, omega (arith, c.count_edge-k.ensures.most), c.count_edge-k.ensures.goes c.loop-i.invariant.2)

pub returns : goal.returns
unfolding crossings
returns c =
    let v = c.args.v in
    let e : c.loop-i.i ≡ v = omega arith in
    let theta = c.args.theta in
    let outline = c.args.outline.now in
    record { fact_1 = c.loop-i.invariant.2 ∙ ap (λ (j : ℕ). length (picked_before (crosses v outline theta) (crossing v outline theta) j)) e; fact_2 = omega arith }
