-- A power with a whole exponent by squaring, by document 01's stand-in for `powi`: start at 1; while the exponent lasts, multiply by the
-- base if it is odd, halve it, and if not yet 0 square the base. Assumes nothing.
use Rattle.std.specs.Prelude.{◌≡◌, refl, cond, ℕ, zero, suc, ◌/◌, ◌%◌, ◌≤◌, ◌<◌, eqb, Float}
use Rattle.std.proofs.Common.{not-suc-le-zero, le_refl, arith}
use Rattle.number.specs.Float64.{◌⊗◌, one64}

-- the product so far, times the base where the exponent is odd
unfoldable pub times_if_odd : ℕ → Float → Float → Float
times_if_odd e r b = cond (eqb (e % 2) 1) (r ⊗ b) r

-- the base for the halved exponent e: its square where that is not 0
unfoldable pub square_unless_zero : ℕ → Float → Float
square_unless_zero e b = cond (eqb e 0) b (b ⊗ b)

-- the product after at most k turns, from the product r, the base b and the exponent e
unfoldable pub power_turns : ℕ → Float → Float → ℕ → Float
power_turns zero r b e = r
power_turns (suc k) r b zero = r
power_turns (suc k) r b (suc e) = power_turns k (times_if_odd (suc e) r b) (square_unless_zero (suc e / 2) b) (suc e / 2)

-- b to the e: e turns are always enough
unfoldable pub power_of : Float → ℕ → Float
power_of b e = power_turns e one64 b e

-- with more turns than it takes nothing changes
enough : (k j : ℕ) (r b : Float) (e : ℕ) → e ≤ k → e ≤ j → power_turns k r b e ≡ power_turns j r b e
unfolding power_turns
enough zero zero r b e h g = refl
enough zero (suc j) r b zero h g = refl
enough zero (suc j) r b (suc e) h g = absurd (not-suc-le-zero h)
enough (suc k) zero r b zero h g = refl
enough (suc k) zero r b (suc e) h g = absurd (not-suc-le-zero g)
enough (suc k) (suc j) r b zero h g = refl
enough (suc k) (suc j) r b (suc e) h g =
    enough k j (times_if_odd (suc e) r b) (square_unless_zero (suc e / 2) b) (suc e / 2) (omega arith) (omega arith)

-- one turn
pub power_turn : (r b : Float) (e : ℕ) → 0 < e
    → power_turns (e / 2) (times_if_odd e r b) (square_unless_zero (e / 2) b) (e / 2) ≡ power_turns e r b e
unfolding power_turns
power_turn r b zero h = absurd (not-suc-le-zero h)
power_turn r b (suc e) h =
    enough (suc e / 2) e (times_if_odd (suc e) r b) (square_unless_zero (suc e / 2) b) (suc e / 2) (le_refl (suc e / 2)) (omega arith)

pub power_done : (r b : Float) (e : ℕ) → e ≤ 0 → power_turns e r b e ≡ r
unfolding power_turns
power_done r b zero h = refl
power_done r b (suc e) h = absurd (not-suc-le-zero h)
