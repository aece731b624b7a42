-- `transpose` meets its contract: i rows are written. Assumes nothing.
use borrow.Author.Rules.{rules}
use native.Mathlib.Omega.{arith}
use mathlib.Core.Path.{◌≡◌, refl, ap}
use Prim.Native.Nat.{ℕ, ◌-◌, ◌*◌, ◌≤◌}
use Rattle.storage.specs.Filled.{Filled, filled_none, filled_to}
use Rattle.storage.specs.Rectangle.{by_rows, by_rows_more}
use Rattle.matrix.specs.Matrix.{cell}
use Rattle.matrix.specs.Layout.{flipped}
use Rattle.matrix.proofs.transpose.Goals as goal

pub loop-i-init : goal.loop-i-init
loop-i-init c = (omega arith, filled_to filled_none (omega arith))

pub loop-i-preserved : goal.loop-i-preserved
loop-i-preserved c =
    let a = c.args in
    let rows = c.loop-i.invariant.1 in
    let row = c.row.ensures.is in
    (omega arith, by_rows_more (flipped (cell a.n a.a.now)) _ _ rows c.transpose_row.ensures refl row)

pub returns : goal.returns
returns c =
    let a = c.args in
    let e : c.loop-i.i ≡ a.n = omega arith in
    filled_to c.loop-i.invariant.1 (ap (λ (x : ℕ). x * a.n) e)
