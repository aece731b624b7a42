-- `gauss::legendre_pair` meets its contract: the turns from k on make of the two polynomials what all turns make of 1 and z. Assumes nothing.
use Rattle.quadrature.specs.GaussLaws.{Recursion, recursion_start, recursion_turn, recursion_end}
use Rattle.number.specs.Whole.{whole}
use native.Mathlib.Omega.{arith}
use Prim.Native.Nat.{◌+◌, ◌-◌, ◌≤◌}
use Rattle.quadrature.proofs.gauss.legendre_pair.Goals as goal

pub loop-k-init : goal.loop-k-init
loop-k-init c = (omega arith, omega arith, recursion_start _ _)

pub int_to_float-next : goal.int_to_float-next
int_to_float-next c = whole _ (omega arith)

pub int_to_float-next-in-loop-k : goal.int_to_float-next-in-loop-k
int_to_float-next-in-loop-k c = whole _ (omega arith)

pub int_to_float-next-in-loop-k-2 : goal.int_to_float-next-in-loop-k-2
int_to_float-next-in-loop-k-2 c = whole _ (omega arith)

pub loop-k-preserved : goal.loop-k-preserved
loop-k-preserved c = (omega arith, omega arith, recursion_turn c.loop-k.invariant.2 (omega arith))

pub returns : goal.returns
returns c = recursion_end c.loop-k.invariant.2 (omega arith)
