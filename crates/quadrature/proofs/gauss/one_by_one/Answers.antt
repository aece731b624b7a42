-- `gauss::one_by_one` meets its contract: i roots from index `at` on and their weights are written. Assumes nothing.
use lib.Ieee.{nan}
use Rattle.storage.specs.Elements.{from}
use Rattle.storage.specs.Filled.{Filled, filled_none, filled_more, filled_to}
use Rattle.quadrature.specs.Gauss.{upper_node, upper_weight}
use Rattle.quadrature.specs.GaussLaws.{root_node, root_weight}
use borrow.Author.Rules.{rules}
use native.Mathlib.Omega.{arith}
use mathlib.Core.Path.{refl, ◌∙◌}
use Prim.Native.Nat.{◌+◌, ◌-◌, ◌≤◌}
use Rattle.quadrature.proofs.gauss.one_by_one.Goals as goal

pub loop-i-init : goal.loop-i-init
loop-i-init c = (omega arith, filled_none, filled_none)

pub loop-i-preserved : goal.loop-i-preserved
loop-i-preserved c =
    let a = c.args in
    let l = c.loop-i in
    let r = c.legendre_root-r.ensures in (
      omega arith,
      filled_more l.invariant.1 refl (root_node a.guesses.now a.at a.n l.i refl r),
      filled_more l.invariant.2 refl (c.weight.ensures ∙ root_weight a.guesses.now a.at a.n l.i refl r),
    )

pub returns : goal.returns
returns c = record { filled = filled_to c.loop-i.invariant.1 (omega arith); filled_2 = filled_to c.loop-i.invariant.2 (omega arith) }
