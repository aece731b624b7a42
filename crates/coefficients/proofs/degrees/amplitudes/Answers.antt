-- `degrees::amplitudes` meets its contract: the variances of the degrees below n are replaced. Assumes nothing.
use Rattle.coefficients.specs.Values.{amplitude_of, amplitude_from}
use Rattle.storage.specs.Filled.{Filled, filled_none, filled_more, filled_to, filled_in, filled_after, filled_again}
use lib.Ieee.{nan}
use borrow.Author.Rules.{rules}
use native.Mathlib.Omega.{arith}
use mathlib.Core.Path.{ap, ◌∙◌}
use Prim.Native.Nat.{◌+◌, ◌-◌, ◌≤◌}
use Rattle.coefficients.proofs.degrees.amplitudes.Goals as goal

pub loop-n-init : goal.loop-n-init
loop-n-init c = (omega arith, filled_none)

pub loop-n-preserved : goal.loop-n-preserved
unfolding amplitude_of
loop-n-preserved c =
    let a = c.args in
    let l = c.loop-n in
    let v = c.variances.ensures in (
      omega arith,
      filled_more l.invariant.1 (omega arith)
          (c.amplitude.ensures
          ∙ ap (amplitude_from a.functional a.love.now a.gm a.radius l.n)
          (filled_after l.n nan l.invariant.1 (omega arith) ∙ filled_in nan v (omega arith) (omega arith) (omega arith))),
    )

pub returns : goal.returns
returns c = filled_again c.variances.ensures (filled_to c.loop-n.invariant.1 (omega arith)) (omega arith)
