-- `degrees::add_terms` meets its contract: the entries so far have their terms added. Assumes nothing.
use Rattle.fourier_analysis.specs.Longitudes.{first_of, second_of}
use Rattle.legendre_analysis.specs.Degrees.{added_row}
use Rattle.legendre.specs.Rows.{scaled_row}
use Rattle.storage.specs.Filled.{filled_none, filled_more, filled_to, filled_after}
use lib.Ieee.{nan}
use native.Mathlib.Omega.{arith}
use mathlib.Core.Path.{refl}
use Prim.Native.Nat.{◌+◌}
use Rattle.legendre_analysis.proofs.degrees.add_terms.Goals as goal

pub loop-m-init : goal.loop-m-init
loop-m-init c = (omega arith, filled_none, filled_none)

pub loop-m-preserved : goal.loop-m-preserved
unfolding added_row scaled_row first_of second_of
loop-m-preserved c =
    let at = c.args.at in
    let l = c.loop-m in
    let old-c = filled_after (at + l.m) nan l.invariant.1 (omega arith) in
    let old-s = filled_after (at + l.m) nan l.invariant.2 (omega arith) in
    (omega arith, filled_more l.invariant.1 refl (cc), filled_more l.invariant.2 refl (cc))

pub returns : goal.returns
returns c = record { filled = filled_to c.loop-m.invariant.1 (omega arith); filled_2 = filled_to c.loop-m.invariant.2 (omega arith) }
