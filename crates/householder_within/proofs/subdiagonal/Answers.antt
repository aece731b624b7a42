-- `subdiagonal` meets its contract: the numbers below index i are written. Assumes nothing.
use native.Mathlib.Omega.{arith}
use Prim.Native.Nat.{◌-◌, ◌≤◌}
use Rattle.storage.specs.Filled.{Filled, filled_none, filled_more, filled_to}
use Rattle.householder.specs.Columns.{subdiagonal_in}
use Rattle.householder_within.proofs.subdiagonal.Goals as goal

pub loop-i-init : goal.loop-i-init
loop-i-init c = (omega arith, filled_none)

pub loop-i-preserved : goal.loop-i-preserved
loop-i-preserved c = (omega arith, filled_more c.loop-i.invariant.1 (omega arith) c.subdiagonal_at.ensures)

pub returns : goal.returns
returns c = filled_to c.loop-i.invariant.1 (omega arith)
