-- `row` meets its contract: the product fits, and the row ends inside the matrix. Assumes nothing.
use native.Mathlib.Nat.{mul-le-mul}
use native.Mathlib.Omega.{arith}
use mathlib.Core.Path.{refl}
use Rattle.matrix.specs.Matrix.{row_within}
use Rattle.matrix.proofs.row.Goals as goal

pub overflow_mul-result : goal.overflow_mul-result
overflow_mul-result c = record { fits = omega (arith, mul-le-mul {n₁ = c.args.i} {m₁ = c.args.n} {n₂ = 512} {m₂ = 512} (omega arith) (omega arith)) }

pub returns : goal.returns
returns c = record { is = refl; inside = row_within _ _ (omega arith) }
