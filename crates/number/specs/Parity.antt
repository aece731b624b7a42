-- Odd numbers, and the powers of -1. Assumes nothing.
use Rattle.std.specs.Prelude.{◌≡◌, refl, Bool, true, false, not, ◌⊎◌, ℕ, zero, suc, ◌%◌, eqb, Float}
use Rattle.std.proofs.Common.{sym, ap, ◌∙◌, inl, inr, ⊎_elim, arith, eq-eqb, ne_eqb}
use Rattle.std.specs.Float.Ieee.{neg, of_bits}
use Rattle.number.specs.Float64.{one64}
use Rattle.number.specs.Sign.{unit_of}

unfoldable pub is_odd : ℕ → Bool
is_odd k = eqb (k % 2) 1

-- (-1) ^ k
unfoldable pub minus_one_to : ℕ → Float
minus_one_to zero = one64
minus_one_to (suc k) = neg (minus_one_to k)

-- ---- laws
pub odd_is : (k : ℕ) → k % 2 ≡ 1 → is_odd k ≡ true
unfolding is_odd
odd_is k e = eq-eqb (k % 2) 1 e

pub even_is : (k : ℕ) → k % 2 ≡ 0 → is_odd k ≡ false
unfolding is_odd
even_is k e = ne_eqb (k % 2) 1 (λ g. omega arith)

pub odd_same : (i k : ℕ) → i % 2 ≡ k % 2 → is_odd i ≡ is_odd k
unfolding is_odd
odd_same i k e = ap (λ (r : ℕ). eqb r 1) e

odd_or_even : (k : ℕ) → (k % 2 ≡ 0) ⊎ (k % 2 ≡ 1)
odd_or_even zero = inl refl
odd_or_even (suc k) = ⊎_elim (λ e. inr (omega arith)) (λ e. inl (omega arith)) (odd_or_even k)

pub odd_next : (k : ℕ) → is_odd (suc k) ≡ not (is_odd k)
odd_next k =
    ⊎_elim (λ e. odd_is (suc k) (omega arith) ∙ ap not (sym (even_is k e))) (λ e. even_is (suc k) (omega arith) ∙ ap not (sym (odd_is k e)))
    (odd_or_even k)

neg_unit : (s : Bool) → neg (unit_of s) ≡ unit_of (not s)
unfolding neg of_bits
neg_unit true = refl
neg_unit false = refl

-- it is -1 where k is odd, and 1 elsewhere
pub minus_one_to_lem : (k : ℕ) → minus_one_to k ≡ unit_of (is_odd k)
unfolding minus_one_to
minus_one_to_lem zero = ap unit_of (sym (even_is 0 refl))
minus_one_to_lem (suc k) = ap neg (minus_one_to_lem k) ∙ neg_unit (is_odd k) ∙ ap unit_of (sym (odd_next k))
