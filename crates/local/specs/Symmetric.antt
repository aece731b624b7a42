-- The tensor is symmetric. The entries below the diagonal are those above it, one value stored twice, so that NaN needs no exception. Assumes nothing.
use Rattle.std.specs.Prelude.{◌≡◌, refl, ℕ, zero, suc, ◌<◌, Float}
use Rattle.std.proofs.Common.{arith}
use Rattle.local.specs.declared.SecondPartials.{SecondPartials}
use Rattle.local.specs.Second.{tensor_of, tensor_cell}

pub symmetric : (p : SecondPartials) (r t u : Float) (i j : ℕ) → i < 3 → j < 3
    → tensor_cell (tensor_of p r t u) i j ≡ tensor_cell (tensor_of p r t u) j i
unfolding tensor_cell
symmetric p r t u zero zero hi hj = refl
symmetric p r t u zero (suc zero) hi hj = refl
symmetric p r t u zero (suc (suc zero)) hi hj = refl
symmetric p r t u zero (suc (suc (suc j))) hi hj = absurd (omega arith)
symmetric p r t u (suc zero) zero hi hj = refl
symmetric p r t u (suc zero) (suc zero) hi hj = refl
symmetric p r t u (suc zero) (suc (suc zero)) hi hj = refl
symmetric p r t u (suc zero) (suc (suc (suc j))) hi hj = absurd (omega arith)
symmetric p r t u (suc (suc zero)) zero hi hj = refl
symmetric p r t u (suc (suc zero)) (suc zero) hi hj = refl
symmetric p r t u (suc (suc zero)) (suc (suc zero)) hi hj = refl
symmetric p r t u (suc (suc zero)) (suc (suc (suc j))) hi hj = absurd (omega arith)
symmetric p r t u (suc (suc (suc i))) j hi hj = absurd (omega arith)
