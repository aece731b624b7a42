-- `copy` meets its contract: k numbers are copied. Assumes nothing.
use lib.Ieee.{nan}
use native.Mathlib.Nat.{zero-add}
use native.Mathlib.Omega.{arith}
use mathlib.Core.Path.{sym}
use Prim.Native.Nat.{◌-◌, ◌≤◌}
use Rattle.storage.specs.Elements.{from, from_zero}
use Rattle.storage.specs.Filled.{Filled, filled_none, filled_more, filled_to}
use Rattle.matrix.proofs.copy.Goals as goal

pub loop-k-init : goal.loop-k-init
loop-k-init c = (omega arith, filled_none)

pub loop-k-preserved : goal.loop-k-preserved
loop-k-preserved c = (omega arith, filled_more c.loop-k.invariant.1 (sym (zero-add _)) (sym (from_zero _ _ _)))

pub returns : goal.returns
returns c = filled_to c.loop-k.invariant.1 (omega arith)
