-- `gauss::mirror` meets its contract: i numbers from index `half` on are written, the front is as it was. Assumes nothing.
use lib.Ieee.{nan}
use Rattle.storage.specs.Filled.{Filled, filled_none, filled_more, filled_to, filled_before}
use Rattle.quadrature.specs.Gauss.{mirror_from}
use native.Mathlib.Omega.{arith}
use mathlib.Core.Path.{refl}
use Prim.Native.Nat.{◌+◌, ◌-◌, ◌≤◌}
use Rattle.quadrature.proofs.gauss.mirror.Goals as goal

pub loop-i-init : goal.loop-i-init
loop-i-init c = (omega arith, filled_none)

pub loop-i-preserved : goal.loop-i-preserved
unfolding mirror_from
loop-i-preserved c =
    let l = c.loop-i in
    let a = c.args in
    (omega arith, filled_more l.invariant.1 refl (filled_before (a.n - 1 - (a.half + l.i)) nan l.invariant.1 (omega arith)))

pub returns : goal.returns
returns c = filled_to c.loop-i.invariant.1 (omega arith)
