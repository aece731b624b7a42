-- `sums::row_sums` meets its contract: the three sums so far are those of the orders below m. Assumes nothing.
use Rattle.point_sums.specs.Sums.{cosine_from, sine_from, orders_none, orders_more, orders_all}
use Rattle.storage.specs.Elements.{from, from_zero}
use Rattle.number.specs.Whole.{whole_zero, whole_next}
use lib.Ieee.{nan}
use native.Mathlib.Omega.{arith}
use mathlib.Core.Path.{◌≡◌, sym}
use Prim.Native.Nat.{◌+◌}
use Rattle.point_sums.proofs.row_sums.Goals as goal

pub loop-m-init : goal.loop-m-init
loop-m-init c = (omega arith, whole_zero, orders_none _ _ _ _ _ _)

pub loop-m-preserved : goal.loop-m-preserved
unfolding from cosine_from sine_from
loop-m-preserved c =
    let a = c.args in
    let l = c.loop-m in
    let p = a.p.now in
    let d = a.d.now in
    let cos = cosine_from a.k a.trig.now in
    let sin = sine_from a.k a.trig.now in (
      omega arith,
      whole_next l.m l.invariant.1 (omega arith),
      orders_more (from 0 p nan) (from 0 d nan) (from a.at a.c.now nan) (from a.at a.s.now nan) cos sin l.m l.invariant.2
          (sym (from_zero p nan l.m)) (sym (from_zero d nan l.m)) l.invariant.1,
    )

pub returns : goal.returns
returns c =
    let a = c.args in
    let e : c.loop-m.m ≡ a.n + 1 = omega arith in
    let all = orders_all _ _ _ _ _ _ a.n c.loop-m.invariant.2 e in
    record { even_value = all.0; north_value = all.1.0; east_value = all.1.1 }
