-- `cell` meets its contract. Assumes nothing.
use native.Mathlib.Nat.{mul-le-mul}
use native.Mathlib.Omega.{arith}
use mathlib.Core.Path.{ap}
use Prim.Native.Nat.{ℕ, ◌+◌}
use borrow.Author.Rules.{rules}
use Rattle.matrix.proofs.cell.Goals as goal

pub overflow_add-result : goal.overflow_add-result
overflow_add-result c = omega (arith, mul-le-mul {n₁ = c.args.n} {m₁ = c.args.n} {n₂ = 512} {m₂ = 512} (omega arith) (omega arith))

pub returns : goal.returns
returns c = record { is = ap (λ (x : ℕ). x + c.args.j) c.row.ensures.is; inside = omega arith }
