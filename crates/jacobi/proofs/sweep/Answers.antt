-- `sweep` meets its contract: row by row. Assumes nothing.
use borrow.Author.Rules.{rules}
use native.Mathlib.Omega.{arith}
use Prim.Native.Nat.{◌-◌}
use Rattle.storage.specs.Iterate.{iterate}
use Rattle.jacobi.specs.Jacobi.{sweep_row, sweep}
use Rattle.jacobi.specs.JacobiLaws.{held, Becomes, becomes_first, becomes_more, becomes_done}
use Rattle.jacobi.proofs.sweep.Goals as goal

pub loop-p-init : goal.loop-p-init
loop-p-init c = becomes_first

pub loop-p-preserved : goal.loop-p-preserved
loop-p-preserved c =
    let r = c.loop-p.invariant in
    let test = c.loop-p-test.true in
    becomes_more r test c.sweep_row.ensures

pub returns : goal.returns
unfolding sweep
returns c = becomes_done c.loop-p.invariant c.loop-p-test.false
