-- `tables::copy` meets its contract: so many numbers from the front are copied. Assumes nothing.
use lib.Ieee.{nan}
use Rattle.storage.specs.Elements.{from, from_zero}
use Rattle.storage.specs.Filled.{Filled, filled_none, filled_more, filled_to}
use native.Mathlib.Omega.{arith}
use mathlib.Core.Path.{sym}
use Prim.Native.Nat.{◌-◌, ◌≤◌}
use Rattle.coefficients.proofs.tables.copy.Goals as goal

pub loop-k-init : goal.loop-k-init
loop-k-init c = (omega arith, filled_none)

pub loop-k-preserved : goal.loop-k-preserved
loop-k-preserved c =
    let l = c.loop-k in
    (omega arith, filled_more l.invariant.1 (omega arith) (sym (from_zero c.args.list.now nan l.k)))

pub returns : goal.returns
returns c = filled_to c.loop-k.invariant.1 (omega arith)
