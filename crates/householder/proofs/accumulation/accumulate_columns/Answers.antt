-- `accumulation::accumulate_columns` meets its contract: j columns from lo on are written. Assumes nothing.
use borrow.Author.Rules.{rules}
use native.Mathlib.Omega.{arith}
use mathlib.Core.Path.{◌≡◌, ap}
use Prim.Native.Nat.{ℕ, ◌+◌, ◌-◌, ◌*◌, ◌≤◌}
use Rattle.storage.specs.Filled.{Filled, filled_none, filled_to}
use Rattle.storage.specs.Rectangle.{by_rows}
use Rattle.householder.specs.Columns.{accumulated_columns}
use Rattle.householder.specs.ColumnsLaws.{accumulated_more}
use Rattle.householder.proofs.accumulation.accumulate_columns.Goals as goal

pub loop-j-init : goal.loop-j-init
loop-j-init c = (omega arith, filled_to filled_none (omega arith))

pub loop-j-preserved : goal.loop-j-preserved
loop-j-preserved c =
    let column = c.accumulate_column in
    let row = c.row in
    let loop = c.loop-j in
    (omega arith, accumulated_more _ _ _ _ _ _ loop.invariant.1 row.ensures.is column.ensures)

pub returns : goal.returns
returns c =
    let loop = c.loop-j in
    let a = c.args in
    let e : loop.j ≡ a.n - a.lo = omega arith in
    filled_to loop.invariant.1 (ap (λ (x : ℕ). x * a.n) e)
