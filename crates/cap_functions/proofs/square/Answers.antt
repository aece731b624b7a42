-- `square` meets its contract. Assumes nothing.
use native.Mathlib.Omega.{arith}
use native.Mathlib.Nat.{mul-le-mul}
use mathlib.Core.Path.{refl}
use Rattle.cap_functions.proofs.square.Goals as goal

pub overflow_mul-result : goal.overflow_mul-result
overflow_mul-result c = omega (arith, mul-le-mul {n₁ = c.args.k} {m₁ = c.args.k} {n₂ = 181} {m₂ = 181} (omega arith) (omega arith))

pub returns : goal.returns
returns c =
    record { is = refl; small = mul-le-mul {n₁ = c.args.k} {m₁ = c.args.k} {n₂ = 181} {m₂ = 181} (omega arith) (omega arith) }
