-- `recursion::ratio_roots` meets its contract, which says nothing of the guesses. Assumes nothing.
use lib.ListN.{length-set}
use Rattle.number.specs.Whole.{whole}
use borrow.Author.Rules.{rules}
use native.Mathlib.Omega.{arith}
use mathlib.Core.Path.{◌≡◌, refl}
use Prim.Native.Nat.{◌+◌, ◌-◌, ◌≤◌}
use lib.ListN.{length}
use Rattle.recursion.proofs.ratio_roots.Goals as goal

pub loop-k-init : goal.loop-k-init
loop-k-init c = (omega arith, refl)

pub int_to_float-k : goal.int_to_float-k
int_to_float-k c = whole _ (omega arith)

pub int_to_float-k-in-loop-k : goal.int_to_float-k-in-loop-k
int_to_float-k-in-loop-k c = whole _ (omega arith)

pub loop-k-preserved : goal.loop-k-preserved
loop-k-preserved c = (omega arith, simp length-set c.loop-k.invariant.1)

pub returns-then-nmax-first : goal.returns-then-nmax-first
returns-then-nmax-first c = tt

pub returns : goal.returns
returns c = tt
