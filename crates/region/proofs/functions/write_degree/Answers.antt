-- `functions::write_degree` meets its contract: the numbers below order m are written. Assumes nothing.
use borrow.Author.Rules.{rules}
use native.Mathlib.Omega.{arith}
use mathlib.Core.Path.{refl}
use Prim.Native.Nat.{◌-◌, ◌≤◌}
use Rattle.storage.specs.Filled.{Filled, filled_none, filled_more, filled_to}
use Rattle.region.specs.Written.{number_in}
use Rattle.region.proofs.functions.write_degree.Goals as goal

pub loop-m-init : goal.loop-m-init
loop-m-init c = (omega arith, filled_none)

pub loop-m-preserved : goal.loop-m-preserved
loop-m-preserved c = (omega arith, filled_more c.loop-m.invariant.1 refl c.number_of.ensures)

pub returns : goal.returns
returns c = filled_to c.loop-m.invariant.1 (omega arith)
