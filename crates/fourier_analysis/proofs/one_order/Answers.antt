-- `one_order` meets its contract: the two sums so far are those of the longitudes below j. Assumes nothing.
use Rattle.fourier_analysis.specs.Longitudes.{sum_from, term_from, term_none, term_more}
use lib.Ieee.{of_bits}
use native.Mathlib.Omega.{arith}
use mathlib.Core.Path.{◌≡◌, ap, ◌∙◌}
use Prim.Native.Nat.{◌+◌, ◌-◌, ◌≤◌}
use Rattle.fourier_analysis.proofs.one_order.Goals as goal

pub loop-j-init : goal.loop-j-init
unfolding of_bits
loop-j-init c = (omega arith, term_none _ _ _ _, term_none _ _ _ _)

pub loop-j-preserved : goal.loop-j-preserved
unfolding term_from
loop-j-preserved c =
    let a = c.args in
    let l = c.loop-j in (
      omega arith,
      term_more a.values.now a.trig.now a.at a.k l.j l.invariant.1,
      term_more a.values.now a.trig.now a.at (a.k + 1) l.j l.invariant.2,
    )

pub returns : goal.returns
returns c =
    let a = c.args in
    let l = c.loop-j in
    let e : l.j ≡ a.longitudes = omega arith in record { fact_1 = l.invariant.1 ∙ ap (sum_from a.values.now a.trig.now a.at a.k) e; fact_2 = l.invariant.2 ∙ ap (sum_from a.values.now a.trig.now a.at (a.k + 1)) e }
