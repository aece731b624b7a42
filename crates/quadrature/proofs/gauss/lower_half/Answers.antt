-- `gauss::lower_half` meets its contract: the nodes below index j are written, the others are as they were. Assumes nothing.
use lib.Ieee.{nan}
use Rattle.storage.specs.Filled.{Filled, filled_none, filled_more, filled_to, filled_after}
use Rattle.quadrature.specs.Gauss.{lower_node, lower_from}
use borrow.Author.Rules.{rules}
use native.Mathlib.Omega.{arith}
use mathlib.Core.Path.{ap, ◌∙◌}
use Prim.Native.Nat.{◌-◌, ◌≤◌}
use Rattle.quadrature.proofs.gauss.lower_half.Goals as goal

pub loop-j-init : goal.loop-j-init
loop-j-init c = (omega arith, filled_none)

pub loop-j-preserved : goal.loop-j-preserved
unfolding lower_from
loop-j-preserved c =
    let l = c.loop-j in
    let n = c.args.n in
    let z = filled_after l.j nan l.invariant.1 (omega arith) in
    (omega arith, filled_more l.invariant.1 (omega arith) (c.lower_node.ensures ∙ ap (lower_node n l.j) z))

pub returns : goal.returns
returns c = filled_to c.loop-j.invariant.1 (omega arith)
