-- `add_row` meets its contract. Assumes nothing.
use Rattle.number.specs.Whole.{whole}
use native.Mathlib.Nat.{mul-le-mul}
use native.Mathlib.Omega.{arith}
use mathlib.Core.Path.{refl}
use Prim.Native.Nat.{ℕ, ◌+◌, ◌*◌, ◌≤◌}
use Rattle.second_sums.proofs.add_row.Goals as goal

-- (n + 1)(n + 2) is a small number
small : (n : ℕ) → n ≤ 2700 → (n + 1) * (n + 2) ≤ 2701 * 2702
small n h = mul-le-mul {n₁ = n + 1} {m₁ = n + 2} {n₂ = 2701} {m₂ = 2702} (omega arith) (omega arith)

pub int_to_float-n1 : goal.int_to_float-n1
int_to_float-n1 c = whole _ (omega arith)

pub overflow_mul-n12 : goal.overflow_mul-n12
overflow_mul-n12 c = omega (arith, small c.args.n (omega arith))

pub int_to_float-n12 : goal.int_to_float-n12
int_to_float-n12 c = whole _ (omega (arith, small c.args.n (omega arith)))

pub returns : goal.returns
returns c = refl
