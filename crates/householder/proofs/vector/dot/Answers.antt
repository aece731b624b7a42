-- `vector::dot` meets its contract: the terms below index i are added. Assumes nothing.
use native.Mathlib.Omega.{arith}
use mathlib.Core.Path.{◌≡◌, sym, ap, ◌∙◌}
use Prim.Native.Nat.{◌-◌, ◌≤◌}
use lib.Ieee.{nan}
use Rattle.storage.specs.Elements.{from}
use Rattle.householder.specs.Reduction.{dot}
use Rattle.householder.specs.ReductionLaws.{dot_none, dot_more}
use Rattle.householder.proofs.vector.dot.Goals as goal

pub loop-i-init : goal.loop-i-init
loop-i-init c = (omega arith, omega arith, sym (dot_none _ _ _))

pub loop-i-preserved : goal.loop-i-preserved
unfolding from
loop-i-preserved c =
    let loop = c.loop-i in
    let a = c.args in
    let x = from a.xat a.x.now nan in
    let y = from a.yat a.y.now nan in
    (omega arith, omega arith, dot_more x y a.lo loop.i loop.invariant.2 loop.invariant.0)

pub returns : goal.returns
returns c =
    let loop = c.loop-i in
    let a = c.args in
    let e : loop.i ≡ a.hi = omega arith in
    loop.invariant.2 ∙ ap (dot (from a.xat a.x.now nan) (from a.yat a.y.now nan) a.lo) e
