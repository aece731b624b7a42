-- `rotate_columns` meets its contract: in k rows the pair is rotated. Assumes nothing.
use lib.ListN.{length-set}
use borrow.Author.Rules.{rules}
use native.Mathlib.Omega.{arith}
use mathlib.Core.Path.{◌≡◌, ap}
use Prim.Native.Nat.{ℕ, ◌-◌, ◌*◌, ◌≤◌}
use Rattle.storage.specs.Filled.{Filled, filled_to}
use Rattle.storage.specs.Rectangle.{by_rows}
use Rattle.matrix.specs.Matrix.{cell, columns_rotated}
use Rattle.matrix.specs.Layout.{columns_none, columns_more, columns_rotated_lem}
use Rattle.matrix.proofs.rotate_columns.Goals as goal

pub loop-k-init : goal.loop-k-init
loop-k-init c = (omega arith, columns_none _ _ _ _ _ _)

pub bounds-list-at-in-loop-k-3 : goal.bounds-list-at-in-loop-k-3
bounds-list-at-in-loop-k-3 c = simp length-set (omega arith)

pub loop-k-preserved : goal.loop-k-preserved
loop-k-preserved c =
    let r = c.loop-k.invariant.1 in
    (omega arith, columns_more _ _ _ _ _ _ _ r c.row-at.ensures.is (omega arith) (omega arith) (omega arith) (omega arith))

pub returns : goal.returns
returns c =
    let a = c.args in
    let e : c.loop-k.k ≡ a.n = omega arith in
    columns_rotated_lem _ _ _ _ _ _ (filled_to c.loop-k.invariant.1 (ap (λ (x : ℕ). x * a.n) e)) (omega arith) (omega arith) (omega arith)
