-- `derivative::roots` meets its contract, which says nothing of the guesses. Assumes nothing.
use Rattle.number.specs.Whole.{whole}
use lib.ListN.{length-set}
use borrow.Author.Rules.{rules}
use native.Mathlib.Omega.{arith}
use mathlib.Core.Path.{◌≡◌, refl}
use Prim.Native.Nat.{◌+◌, ◌-◌}
use lib.ListN.{length}
use Rattle.derivative.proofs.roots.Goals as goal

pub loop-k-init : goal.loop-k-init
loop-k-init c = refl

pub int_to_float-k : goal.int_to_float-k
int_to_float-k c = whole _ (omega arith)

pub loop-k-preserved : goal.loop-k-preserved
loop-k-preserved c = simp length-set c.loop-k.invariant

pub returns : goal.returns
returns c = tt
