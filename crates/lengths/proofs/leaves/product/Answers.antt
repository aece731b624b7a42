-- `leaves::product` meets its contract. Assumes nothing.
use native.Mathlib.Nat.{mul-le-mul}
use native.Mathlib.Omega.{arith}
use mathlib.Core.Path.{refl}
use Rattle.lengths.proofs.leaves.product.Goals as goal

pub overflow_mul-result : goal.overflow_mul-result
overflow_mul-result c = omega (arith, mul-le-mul c.requires.fact_1 c.requires.fact_2)

pub returns : goal.returns
returns c = record { fact_1 = refl; fact_2 = mul-le-mul c.requires.fact_1 c.requires.fact_2 }
