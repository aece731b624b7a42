-- `Head::rescaled` meets its contract: past the checks both tables are rescaled. Assumes nothing.
use Rattle.coefficients.specs.Model.{model_made}
use Rattle.storage.specs.Answers.{size_is}
use Rattle.storage.specs.Checks.{outputs_passed}
use native.Mathlib.Omega.{arith}
use mathlib.Core.Path.{sym, ◌∙◌}
use Rattle.coefficients.proofs.Head.rescaled.Goals as goal

pub rescale-requires : goal.rescale-requires
rescale-requires c =
    let ok = sym c.in_ok-outputs_check.was ∙ c.outputs_check.ensures in
    let o = outputs_passed _ _ _ _ _ _ ok in
    let z = size_is _ o.tables.top in
    record { fact_1 = o.tables.top; fact_2 = omega arith; fact_3 = omega arith; fact_4 = omega arith; fact_5 = omega arith }

pub returns : goal.returns
returns c =
    let ok = sym c.in_ok-outputs_check.was ∙ c.outputs_check.ensures in
    record { value = model_made _ ok; outc_after = c.rescale.ensures.filled.is; outs_after = c.rescale.ensures.filled_2.is }
