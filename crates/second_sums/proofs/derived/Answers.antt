-- `derived` meets its contract: one law for each way through its tests. Assumes nothing.
use Rattle.second_sums.specs.Window.{derived_zonal, derived_inner, derived_beyond, derived_origin, derived_sectoral}
use Rattle.storage.specs.Elements.{from}
use lib.Ieee.{nan}
use native.Mathlib.Omega.{arith}
use Rattle.second_sums.proofs.derived.Goals as goal

pub returns-then-m-eq0 : goal.returns-then-m-eq0
unfolding from
returns-then-m-eq0 c =
    let a = c.args in
    derived_zonal a.n (from a.at a.w.now nan) a.m a.below a.above (omega arith) (omega arith)

pub returns-then-m-n : goal.returns-then-m-n
unfolding from
returns-then-m-n c =
    let a = c.args in
    derived_inner a.n (from a.at a.w.now nan) a.m a.below a.above (omega arith) (omega arith)

pub returns-then-m-n-2 : goal.returns-then-m-n-2
returns-then-m-n-2 c =
    let a = c.args in
    derived_beyond a.n (from a.at a.w.now nan) a.m a.below a.above (omega arith)

pub returns-then-n-eq0 : goal.returns-then-n-eq0
returns-then-n-eq0 c =
    let a = c.args in
    derived_origin a.n (from a.at a.w.now nan) a.m a.below a.above (omega arith) (omega arith)

pub returns : goal.returns
unfolding from
returns c =
    let a = c.args in
    derived_sectoral a.n (from a.at a.w.now nan) a.m a.below a.above (omega arith) (omega arith)
