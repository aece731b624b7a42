-- `derivative::weights_row` meets its contract: order 0, and then the others. Assumes nothing.
use Rattle.derivative.specs.Derivative.{weight_cell, weight_above, weight_zonal}
use Rattle.storage.specs.Filled.{filled_one, filled_join, filled_to}
use lib.ListN.{length-set}
use native.Mathlib.Omega.{arith}
use mathlib.Core.Path.{refl, ◌∙◌}
use borrow.Author.Rules.{rules}
use Rattle.derivative.proofs.weights_row.Goals as goal

pub returns-then-n-eq0 : goal.returns-then-n-eq0
returns-then-n-eq0 c =
    let a = c.args in
    let e = c.if-n-eq0.true in
    filled_to (filled_one a.w.now (c.zonal.ensures ∙ weight_zonal a.n)) (omega arith)

pub lower_weights-requires : goal.lower_weights-requires
lower_weights-requires c = record { fact_1 = omega arith; fact_2 = omega arith; fact_3 = omega arith; fact_4 = simp length-set (omega arith) }

pub returns : goal.returns
unfolding weight_above
returns c =
    let zonal = c.zonal in
    let a = c.args in
    let first = filled_one a.w.now (zonal.ensures ∙ weight_zonal a.n) in
    filled_to (filled_join {F = weight_cell a.n} {G = weight_above a.n} first c.lower_weights.ensures refl (λ i h. refl)) (omega arith)
