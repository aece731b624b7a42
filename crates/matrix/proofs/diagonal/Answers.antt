-- `diagonal` meets its contract: i numbers are written. Assumes nothing.
use lib.Ieee.{nan}
use lib.ListN.{get_or}
use native.Mathlib.Nat.{zero-add}
use borrow.Author.Rules.{rules}
use native.Mathlib.Omega.{arith}
use mathlib.Core.Path.{sym, ap}
use Prim.Native.Nat.{ℕ, ◌-◌, ◌≤◌}
use Rattle.storage.specs.Filled.{Filled, filled_none, filled_more, filled_to}
use Rattle.matrix.specs.Matrix.{cell, diagonal_cell}
use Rattle.matrix.proofs.diagonal.Goals as goal

pub loop-i-init : goal.loop-i-init
loop-i-init c = (omega arith, filled_none)

pub loop-i-preserved : goal.loop-i-preserved
unfolding diagonal_cell cell
loop-i-preserved c =
    let at = ap (λ (x : ℕ). get_or c.args.a.now x nan) c.cell-at.ensures.is in
    (omega arith, filled_more c.loop-i.invariant.1 (sym (zero-add _)) at)

pub returns : goal.returns
returns c = filled_to c.loop-i.invariant.1 (omega arith)
