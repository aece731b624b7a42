-- `row` meets its contract: the numbers below column j are written. Assumes nothing.
use Rattle.caps.specs.Caps.{grunbaum_cell}
use Rattle.storage.specs.Filled.{Filled, filled_none, filled_more, filled_to}
use native.Mathlib.Omega.{arith}
use mathlib.Core.Path.{refl}
use Prim.Native.Nat.{◌-◌, ◌≤◌}
use Rattle.caps.proofs.grunbaum.row.Goals as goal

pub loop-j-init : goal.loop-j-init
loop-j-init c = (omega arith, filled_none)

pub loop-j-preserved : goal.loop-j-preserved
loop-j-preserved c = (omega arith, filled_more c.loop-j.invariant.1 refl c.cell.ensures)

pub returns : goal.returns
returns c = filled_to c.loop-j.invariant.1 (omega arith)
