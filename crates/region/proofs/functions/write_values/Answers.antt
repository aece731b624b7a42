-- `functions::write_values` meets its contract: i values are written. Assumes nothing.
use native.Mathlib.Omega.{arith}
use mathlib.Core.Path.{sym, ap}
use Prim.Native.Nat.{ℕ}
use lib.ListN.{get_or}
use lib.Ieee.{nan}
use native.Mathlib.Nat.{zero-add}
use Rattle.storage.specs.Filled.{filled_none, filled_more, filled_to}
use Rattle.region.specs.Written.{picked_value}
use Rattle.region.proofs.functions.write_values.Goals as goal

pub loop-i-init : goal.loop-i-init
loop-i-init c = (omega arith, filled_none)

pub offset_bounds-places-i : goal.offset_bounds-places-i
offset_bounds-places-i c = omega (arith, c.requires.fact_1.long)

pub bounds-places-i : goal.bounds-places-i
bounds-places-i c = omega (arith, c.requires.fact_1.long)

pub offset_bounds-values-place : goal.offset_bounds-values-place
offset_bounds-values-place c =
    let f = c.requires.fact_1.inside c.loop-i.i
    c.loop-i-test.true in
    omega arith

pub bounds-values-place : goal.bounds-values-place
bounds-values-place c =
    let f = c.requires.fact_1.inside c.loop-i.i
    c.loop-i-test.true in
    omega arith

pub loop-i-preserved : goal.loop-i-preserved
unfolding picked_value
loop-i-preserved c =
    let a = c.args in (
      omega arith,
      filled_more c.loop-i.invariant.1 (sym (zero-add _))
          (ap (λ (f : ℕ). get_or a.values.now f nan) c.from-place.ensures),
    )

pub returns : goal.returns
returns c = filled_to c.loop-i.invariant.1 (omega arith)
