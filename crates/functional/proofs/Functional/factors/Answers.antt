-- `Functional::factors` meets its contract: the factors below degree n are written. Assumes nothing.
use Rattle.functional.specs.Factor.{factor_of}
use Rattle.storage.specs.Filled.{Filled, filled_none, filled_more, filled_to}
use native.Mathlib.Omega.{arith}
use Prim.Native.Nat.{◌+◌, ◌-◌, ◌≤◌}
use Rattle.functional.proofs.Functional.factors.Goals as goal

pub loop-n-init : goal.loop-n-init
loop-n-init c = (omega arith, filled_none)

pub loop-n-preserved : goal.loop-n-preserved
loop-n-preserved c = (omega arith, filled_more c.loop-n.invariant.1 (omega arith) c.degree_factor.ensures)

pub returns : goal.returns
returns c = filled_to c.loop-n.invariant.1 (omega arith)
