-- `gauss::legendre_root` meets its contract: the corrections still to come make of the root so far what all make of the guess. Assumes nothing.
use Rattle.quadrature.specs.GaussLaws.{Corrected, none_corrected, one_corrected, root_settled, root_last}
use borrow.Author.Rules.{rules}
use native.Mathlib.Omega.{arith}
use Prim.Native.Nat.{◌-◌, ◌≤◌}
use Rattle.quadrature.proofs.gauss.legendre_root.Goals as goal

pub loop-k-init : goal.loop-k-init
loop-k-init c = (omega arith, none_corrected _ _ c.start-s.ensures)

pub returns-then-s : goal.returns-then-s
returns-then-s c = root_settled c.loop-k.invariant.1 c.if-s.true

pub loop-k-preserved : goal.loop-k-preserved
loop-k-preserved c =
    let i = c.loop-k.invariant.1 in
    (omega arith, one_corrected i (omega arith) c.if-s.false c.legendre_pair-p.ensures c.correct-s.ensures)

pub returns : goal.returns
returns c = root_last c.loop-k.invariant.1 (omega arith)
