-- `off_squares` meets its contract: row by row. Assumes nothing.
use Prim.Native.Nat.{ℕ, ◌+◌, ◌-◌}
use lib.Ieee.{Float}
use native.Mathlib.Omega.{arith}
use mathlib.Core.Path.{◌≡◌, refl, sym, ap, ◌∙◌}
use Rattle.storage.specs.Iterate.{iterate, iterate_step, iterate_done}
use Rattle.matrix.specs.Layout.{plain}
use Rattle.jacobi.specs.Jacobi.{add_off_row, off_squares}
use Rattle.jacobi.proofs.off_squares.Goals as goal

pub loop-p-init : goal.loop-p-init
loop-p-init c = refl

pub loop-p-preserved : goal.loop-p-preserved
loop-p-preserved c =
    let a = c.args in
    let l = c.loop-p in
    let f : ℕ → Float → Float = add_off_row a.n (plain a.n a.a.now) in
    ap (iterate f (l.p + 1) a.n) c.add_off_row-t.ensures ∙ sym (iterate_step f _ _ _ c.loop-p-test.true) ∙ l.invariant

pub returns : goal.returns
unfolding off_squares
returns c = sym (iterate_done _ _ _ _ c.loop-p-test.false) ∙ c.loop-p.invariant
