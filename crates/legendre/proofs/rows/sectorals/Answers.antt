-- `rows::sectorals` meets its contract: the numbers so far are written, and the next one is at hand. Assumes nothing.
use native.Mathlib.Omega.{arith}
use mathlib.Core.Path.{◌≡◌, ap, ◌∙◌}
use Prim.Native.Nat.{◌+◌, ◌-◌, ◌≤◌}
use Rattle.storage.specs.Filled.{Filled, filled_none, filled_more, filled_to}
use Rattle.number.specs.Float64.{◌⊗◌}
use Rattle.number.specs.Root.{root_of}
use lib.Ieee.{Float}
use Rattle.recursion.specs.Recursion.{sectoral_ratio, pmm, pmm_zero, pmm_more}
use Rattle.legendre.proofs.rows.sectorals.Goals as goal

pub loop-m-init : goal.loop-m-init
loop-m-init c = (omega arith, pmm_zero, filled_none)

pub loop-m-preserved : goal.loop-m-preserved
loop-m-preserved c =
    let l = c.loop-m in (
      omega arith,
      c.next_sectoral-sectoral.ensures ∙ ap (λ (y : Float). y ⊗ root_of (sectoral_ratio (l.m + 1))) l.invariant.1 ∙ pmm_more l.m,
      filled_more l.invariant.2 (omega arith) l.invariant.1,
    )

pub returns : goal.returns
returns c = filled_to c.loop-m.invariant.2 (omega arith)
