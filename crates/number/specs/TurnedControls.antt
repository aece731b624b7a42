-- The words of change request W6 at fixed numbers, so that a change of these words is noticed: which numbers are the same, and which turned signs are none.
-- Assumes nothing.
use Rattle.std.specs.Prelude.{◌≡◌, refl, true}
use Rattle.std.proofs.Common.{sym, ap, subst, true≢false, inl, inr}
use Rattle.std.specs.Float.{nan, binary64}
use Rattle.std.specs.Float.Ieee.{is_nan, eq, neg, of_bits}
use Rattle.std.specs.Float.Ieee.Bits.{of_bits-fits}
use Rattle.number.specs.Float64.{zero64, one64}
use Rattle.number.specs.Identities.{times_minus_one}
use Rattle.number.specs.Parity.{minus_one_to}
use Rattle.number.specs.Turned.{Alike, Turned, turned_times}

-- zeros of either sign, and NaN
pub zeros_alike : Alike zero64 (neg zero64)
unfolding eq neg of_bits
zeros_alike = inl refl

pub nans_alike : Alike nan nan
nans_alike = inr (refl, refl)

-- no number and its negative, and no number and NaN
pub one_not_negative : Alike one64 (neg one64) → ⊥
unfolding eq neg of_bits is_nan
one_not_negative (inl e) = absurd (true≢false (sym e))
one_not_negative (inr (e, g)) = absurd (true≢false (sym (ap is_nan e)))

pub one_not_nan : Alike one64 nan → ⊥
unfolding eq of_bits is_nan
one_not_nan (inl e) = absurd (true≢false (sym e))
one_not_nan (inr (e, g)) = absurd (true≢false (sym (ap is_nan e)))

pub nan_not_one : Alike nan one64 → ⊥
unfolding eq of_bits is_nan
nan_not_one (inl e) = absurd (true≢false (sym e))
nan_not_one (inr (e, g)) = absurd (true≢false (sym (ap is_nan g)))

-- 1 with its sign turned is not 1
pub one_not_turned : Turned true one64 one64 → ⊥
one_not_turned h =
    let fit = of_bits-fits binary64 0x3ff0_0000_0000_0000 in
    one_not_negative (subst (Alike one64) (times_minus_one one64 fit) (turned_times true fit h))

-- the powers of -1
pub minus_one_once : minus_one_to 1 ≡ neg one64
unfolding minus_one_to
minus_one_once = refl

pub minus_one_twice : minus_one_to 2 ≡ one64
unfolding minus_one_to neg of_bits
minus_one_twice = refl
