-- `rows::mean_weight` meets its contract: the count is cast without loss. Assumes nothing.
use Rattle.number.specs.Whole.{whole}
use native.Mathlib.Omega.{arith}
use Rattle.analysis.proofs.rows.mean_weight.Goals as goal

pub int_to_float-result : goal.int_to_float-result
int_to_float-result c = whole _ (omega arith)
