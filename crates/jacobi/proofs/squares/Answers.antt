-- `squares` meets its contract: the sum that is still to come of the sum now is the whole. Assumes nothing.
use native.Mathlib.Omega.{arith}
use mathlib.Core.Path.{◌≡◌, refl, sym, ◌∙◌}
use Prim.Native.Nat.{◌-◌}
use lib.ListN.{length}
use Rattle.storage.specs.Iterate.{iterate, iterate_step, iterate_done}
use Rattle.jacobi.specs.Jacobi.{add_square, squares}
use Rattle.jacobi.proofs.squares.Goals as goal

pub loop-k-init : goal.loop-k-init
loop-k-init c = (refl, refl)

pub loop-k-preserved : goal.loop-k-preserved
unfolding add_square
loop-k-preserved c =
    let l = c.loop-k in
    (l.invariant.0, sym (iterate_step (add_square c.args.a.now) _ _ _ c.loop-k-test.true) ∙ l.invariant.1)

pub returns : goal.returns
unfolding squares
returns c = sym (iterate_done _ _ _ _ c.loop-k-test.false) ∙ c.loop-k.invariant.1
