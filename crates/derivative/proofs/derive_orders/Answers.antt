-- `derivative::derive_orders` meets its contract: the orders below m are written. Assumes nothing.
use Rattle.derivative.specs.Derivative.{derived_above, derived_inner, derived_sectoral}
use Rattle.storage.specs.Filled.{Filled, filled_none, filled_more, filled_to}
use Rattle.storage.specs.Elements.{from}
use lib.Ieee.{nan}
use lib.ListN.{length-set}
use native.Mathlib.Omega.{arith}
use mathlib.Core.Path.{◌≡◌, ap}
use Prim.Native.Nat.{ℕ, ◌+◌, ◌-◌, ◌≤◌}
use Rattle.derivative.proofs.derive_orders.Goals as goal

pub loop-m-init : goal.loop-m-init
loop-m-init c = (omega arith, omega arith, filled_none)

pub loop-m-preserved : goal.loop-m-preserved
unfolding from
loop-m-preserved c =
    let a = c.args in
    let l = c.loop-m in
    let v = derived_inner a.n (omega arith) (from a.wat a.w.now nan) (from a.at a.src.now nan) l.m (omega arith) (omega arith) in
    (omega arith, omega arith, filled_to (filled_more l.invariant.2 (omega arith) v) (omega arith))

pub returns : goal.returns
unfolding from
returns c =
    let a = c.args in
    let l = c.loop-m in
    let e : l.m ≡ a.n = omega arith in
    let v = derived_sectoral a.n (omega arith) (from a.wat a.w.now nan) (from a.at a.src.now nan) in
    filled_to (filled_more (filled_to l.invariant.2 (ap (λ (x : ℕ). x - 1) e)) (omega arith) v) (omega arith)
