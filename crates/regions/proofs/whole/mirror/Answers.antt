-- `mirror` meets its contract: the rows above row i have their upper half. Assumes nothing.
use borrow.Author.Rules.{rules}
use native.Mathlib.Omega.{arith}
use mathlib.Core.Path.{◌≡◌, ap}
use Prim.Native.Nat.{ℕ, ◌-◌, ◌*◌, ◌≤◌}
use Rattle.storage.specs.Filled.{Filled, filled_none, filled_to}
use Rattle.storage.specs.Rectangle.{by_rows}
use Rattle.regions.specs.Mirror.{mirrored, mirror_more}
use Rattle.regions.proofs.whole.mirror.Goals as goal

pub loop-i-init : goal.loop-i-init
loop-i-init c = (omega arith, filled_to filled_none (omega arith))

pub loop-i-preserved : goal.loop-i-preserved
loop-i-preserved c = (omega arith, mirror_more _ _ _ c.loop-i-test.true (omega arith) c.loop-i.invariant.1 c.mirror_row.ensures)

pub returns : goal.returns
returns c = let e : c.loop-i.i ≡ c.args.n = omega arith in filled_to c.loop-i.invariant.1 (ap (λ (j : ℕ). j * c.args.n) e)
