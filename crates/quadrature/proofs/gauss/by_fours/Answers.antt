-- `gauss::by_fours` meets its contract: the roots of the blocks so far and their weights are written. Assumes nothing.
use Rattle.storage.specs.Filled.{filled_none, filled_join, filled_to}
use Rattle.quadrature.specs.GaussLaws.{node_from, weight_from}
use native.Mathlib.Omega.{arith}
use mathlib.Core.Path.{◌≡◌}
use Prim.Native.Nat.{◌*◌, ◌/◌}
use Rattle.quadrature.proofs.gauss.by_fours.Goals as goal

pub loop-block-init : goal.loop-block-init
loop-block-init c = (filled_none, filled_none)

pub loop-block-preserved : goal.loop-block-preserved
loop-block-preserved c =
    let a = c.args in
    let l = c.loop-block in
    let r = c.four_at.ensures in (
      filled_to (filled_join l.invariant.0 r.filled (omega arith) (λ i h. node_from a.guesses.now (4 * l.block) a.n i)) (omega arith),
      filled_to (filled_join l.invariant.1 r.filled_2 (omega arith) (λ i h. weight_from a.guesses.now (4 * l.block) a.n i)) (omega arith),
    )

pub returns : goal.returns
returns c =
    let e : c.loop-block.block ≡ c.args.half / 4 = omega arith in
    record { upper_bound = omega arith; filled = rw e at c.loop-block.invariant.0; filled_2 = rw e at c.loop-block.invariant.1 }
