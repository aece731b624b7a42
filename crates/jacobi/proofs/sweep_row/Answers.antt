-- `sweep_row` meets its contract: the rotations still to come lead from the matrices now to those at the end. Assumes nothing.
use borrow.Author.Rules.{rules}
use native.Mathlib.Omega.{arith}
use Prim.Native.Nat.{◌+◌, ◌-◌, ◌≤◌}
use Rattle.storage.specs.Iterate.{iterate}
use Rattle.jacobi.specs.Jacobi.{rotate_at, sweep_row}
use Rattle.jacobi.specs.JacobiLaws.{held, Becomes, becomes_first, becomes_more, becomes_done}
use Rattle.jacobi.proofs.sweep_row.Goals as goal

pub loop-q-init : goal.loop-q-init
loop-q-init c = (omega arith, becomes_first)

pub loop-q-preserved : goal.loop-q-preserved
loop-q-preserved c =
    let r = c.loop-q.invariant.1 in
    let test = c.loop-q-test.true in
    (omega arith, becomes_more r test c.rotate_at.ensures)

pub returns : goal.returns
unfolding sweep_row
returns c = becomes_done c.loop-q.invariant.1 c.loop-q-test.false
