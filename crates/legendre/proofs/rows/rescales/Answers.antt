-- `rows::rescales` meets its contract: the powers so far are written, and the next one is at hand. Assumes nothing.
use native.Mathlib.Omega.{arith}
use mathlib.Core.Path.{◌≡◌, ap, ◌∙◌}
use Prim.Native.Nat.{◌-◌, ◌≤◌}
use Rattle.storage.specs.Filled.{Filled, filled_none, filled_more, filled_to}
use Rattle.number.specs.Float64.{◌⊗◌}
use lib.Ieee.{Float}
use Rattle.recursion.specs.Recursion.{rescale, rescale_zero, rescale_more}
use Rattle.legendre.proofs.rows.rescales.Goals as goal

pub loop-m-init : goal.loop-m-init
loop-m-init c = (omega arith, rescale_zero _, filled_none)

pub loop-m-preserved : goal.loop-m-preserved
loop-m-preserved c =
    let l = c.loop-m in
    let u = c.args.u in
    (omega arith, ap (λ (y : Float). y ⊗ u) l.invariant.1 ∙ rescale_more u l.m, filled_more l.invariant.2 (omega arith) l.invariant.1)

pub returns : goal.returns
returns c = filled_to c.loop-m.invariant.2 (omega arith)
