-- `grid_points` meets its contract: the product fits. Assumes nothing.
use Rattle.analysis.specs.Checks.{points_are, points_most}
use native.Mathlib.Omega.{arith}
use Rattle.analysis.proofs.grid_points.Goals as goal

pub overflow_mul-result : goal.overflow_mul-result
overflow_mul-result c = let most = points_most c.args.nmax (omega arith) in omega arith

pub returns : goal.returns
returns c = record { fact_1 = points_are _; fact_2 = points_most _ (omega arith) }
