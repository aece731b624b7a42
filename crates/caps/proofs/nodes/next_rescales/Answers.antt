-- `next_rescales` meets its contract: the powers of the nodes below i are the next ones. Assumes nothing.
use Rattle.caps.specs.Nodes.{next_rescale}
use Rattle.storage.specs.Filled.{Filled, filled_none, filled_more, filled_to, filled_after}
use Rattle.legendre.specs.Directions.{row_cosine}
use Rattle.number.specs.Float64.{◌⊗◌}
use lib.Ieee.{Float, nan}
use borrow.Author.Rules.{rules}
use native.Mathlib.Omega.{arith}
use mathlib.Core.Path.{ap₂}
use Prim.Native.Nat.{◌+◌, ◌-◌, ◌≤◌}
use Rattle.caps.proofs.nodes.next_rescales.Goals as goal

pub loop-i-init : goal.loop-i-init
loop-i-init c = (omega arith, filled_none)

pub loop-i-preserved : goal.loop-i-preserved
unfolding next_rescale row_cosine
loop-i-preserved c = (
  omega arith,
  filled_more c.loop-i.invariant.1 (omega arith)
      (ap₂ (λ (v w : Float). v ⊗ w) (filled_after c.loop-i.i nan c.loop-i.invariant.1 (omega arith)) c.latitude_of-latitude.ensures.fact_2),
)

pub returns : goal.returns
returns c = filled_to c.loop-i.invariant.1 (omega arith)
