-- `transpose_row` meets its contract: j numbers of the row are written. Assumes nothing.
use lib.Ieee.{nan}
use lib.ListN.{get_or}
use borrow.Author.Rules.{rules}
use native.Mathlib.Omega.{arith}
use mathlib.Core.Path.{refl, ap}
use Prim.Native.Nat.{ℕ, ◌-◌, ◌≤◌}
use Rattle.storage.specs.Filled.{Filled, filled_none, filled_more, filled_to}
use Rattle.matrix.specs.Matrix.{cell}
use Rattle.matrix.specs.Layout.{flipped}
use Rattle.matrix.proofs.transpose_row.Goals as goal

pub loop-j-init : goal.loop-j-init
loop-j-init c = (omega arith, filled_none)

pub loop-j-preserved : goal.loop-j-preserved
unfolding flipped cell
loop-j-preserved c =
    let at = ap (λ (x : ℕ). get_or c.args.a.now x nan) c.cell-from.ensures.is in
    (omega arith, filled_more c.loop-j.invariant.1 refl at)

pub returns : goal.returns
returns c = filled_to c.loop-j.invariant.1 (omega arith)
