-- `subdiagonal` meets its contract: the numbers below index i are written, and those that are read stand behind them. Assumes nothing.
use native.Mathlib.Omega.{arith}
use mathlib.Core.Path.{◌∙◌}
use Prim.Native.Nat.{◌-◌, ◌≤◌}
use Rattle.storage.specs.Filled.{Filled, filled_none, filled_more, filled_to}
use Rattle.householder.specs.Columns.{subdiagonal_in}
use Rattle.householder.specs.ReflectionLaws.{subdiagonal_before, le_square}
use Rattle.householder.proofs.subdiagonal.Goals as goal

pub loop-i-init : goal.loop-i-init
loop-i-init c = (omega arith, filled_none)

pub bounds-w-i : goal.bounds-w-i
bounds-w-i c = omega (arith, le_square c.args.n)

pub loop-i-preserved : goal.loop-i-preserved
loop-i-preserved c =
    let below = c.subdiagonal_at in
    let loop = c.loop-i in
    let a = c.args in
    let number = below.ensures ∙ subdiagonal_before a.n loop.invariant.1 in
    (omega arith, filled_more loop.invariant.1 (omega arith) number)

pub returns : goal.returns
returns c = filled_to c.loop-i.invariant.1 (omega arith)
