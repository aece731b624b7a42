-- Decimal digits in ASCII. Assumes nothing.
use Rattle.std.specs.Prelude.{◌≡◌, ℕ, zero, suc, ◌+◌, ◌*◌, ◌/◌, ◌%◌, ◌^◌, ◌≤◌, ◌<◌, Bool, true, false, cond, length, ltb}
use Rattle.std.proofs.Math.Path.{refl}
use Rattle.std.proofs.Common.{ap, ◌∙◌, not-suc-le-zero, pow-suc, arith, length-append, lt-ltb, le-ltb, ltb-true, ltb-false}
use mathlib.Core.List.{List, [], ◌∷◌, ◌++◌}

-- the decimal digits of n, the highest first, where k is above n
unfoldable pub digits_of : ℕ → ℕ → List ℕ
digits_of zero n = []
digits_of (suc k) n = cond (ltb n 10) ((48 + n) ∷ []) (digits_of k (n / 10) ++ ((48 + n % 10) ∷ []))

-- the decimal digits of a number
unfoldable pub decimal_digits : ℕ → List ℕ
decimal_digits n = digits_of (suc n) n

cond_same : {A : Type 0} (a b c : A) (t : Bool) → (t ≡ false → b ≡ c) → cond t a b ≡ cond t a c
cond_same a b c true f = refl
cond_same a b c false f = f refl

-- every k above n gives the same digits
enough : (k j n : ℕ) → n < k → n < j → digits_of k n ≡ digits_of j n
unfolding digits_of
enough zero j n h g = absurd (not-suc-le-zero h)
enough (suc k) zero n h g = absurd (not-suc-le-zero g)
enough (suc k) (suc j) n h g =
    cond_same _ _ _ (ltb n 10)
    (λ e.
    let l = ltb-false n 10 e in
    ap (λ (t : List ℕ). t ++ ((48 + n % 10) ∷ [])) (enough k j (n / 10) (omega arith) (omega arith)))

module _ (n : ℕ) where
  pub digits_one : n < 10 → decimal_digits n ≡ (48 + n) ∷ []
  unfolding decimal_digits digits_of
  digits_one h = rw (lt-ltb n 10 h) refl

  pub digits_more : 10 ≤ n → decimal_digits n ≡ decimal_digits (n / 10) ++ ((48 + n % 10) ∷ [])
  unfolding decimal_digits digits_of
  digits_more h = rw (le-ltb n 10 h) (ap (λ (t : List ℕ). t ++ ((48 + n % 10) ∷ [])) (enough n (suc (n / 10)) (n / 10) (omega arith) (omega arith)))

  pub length_one : n < 10 → length (decimal_digits n) ≡ 1
  length_one h = ap length (digits_one h)

  pub length_more : 10 ≤ n → length (decimal_digits n) ≡ length (decimal_digits (n / 10)) + 1
  length_more h = ap length (digits_more h) ∙ length-append (decimal_digits (n / 10)) ((48 + n % 10) ∷ [])

length_by : (n k : ℕ) (t : Bool) → ltb n 10 ≡ t → (10 ≤ n → length (decimal_digits (n / 10)) ≤ k) → 0 < k + 1
    → length (decimal_digits n) ≤ k + 1
length_by n k true e f p = omega (arith, length_one n (ltb-true n 10 e))
length_by n k false e f p = let h = ltb-false n 10 e in omega (arith, length_more n h, f h)

-- a number below 10^k has at most k digits
pub length_most : (k n : ℕ) → n < 10 ^ suc k → length (decimal_digits n) ≤ suc k
length_most zero n h = omega (arith, length_one n (omega arith))
length_most (suc k) n h =
    let b : n < 10 ^ suc k * 10 = rw pow-suc at h in
    omega (arith, length_by n (suc k) (ltb n 10) refl (λ l. length_most k (n / 10) (omega arith)) (omega arith))

-- a word has at most 20 digits
pub length_word : (n : ℕ) → n < 18446744073709551616 → length (decimal_digits n) ≤ 20
length_word n h = length_most 19 n (omega arith)
