-- The bit patterns of the values above zero, and `square_root` by them. Assumes nothing.
use mathlib.Core.Path.{◌≡◌, refl, sym, ap, ◌∙◌, subst}
use mathlib.Core.Bool.{Bool, true, false, cond, true≢false}
use Prim.Native.Nat.{ℕ, zero, suc, ◌+◌, ◌-◌, ◌*◌, ◌/◌, ◌^◌, ◌≤◌, ◌<◌}
use native.Mathlib.Nat.{le_trans, le_of_eq, le_of_lt, lt_of_lt_of_le, mul-pos, zero-mul, mul-div_cancel, mul-le-mul_right}
use native.Mathlib.Omega.{arith}
use lib.Dec.{T, ltb, lt→ltb}
use lib.IntN.{ℤ}
use lib.Pow.{pow-add, pow_pos, pow_mono, shl_lt}
use lib.Ieee.{Float, nan, inf, fin, binary64, up, down, size, odd, units, fits, of_bits, to_bits, lt}
use lib.Ieee.Fits.{down_pos, odd-fits}
use lib.Ieee.Bits.{of_bits-to_bits}
use lib.Ieee.Exact.{HasValue, odd_sign}
use Rattle.number.specs.Root.{root_of_units, square_root}
use Rattle.number.specs.NearestRoot.{NearestRoot, ScaledRoot}
use Rattle.number.specs.RootByDigits.{size_exact, root_units}

-- ---- the bits of q * 2 ^ K smallest values
quotient : (m : ℕ) (e : ℤ) (A : ℕ) → m * up e * 2 ^ 1074 ≡ A * down e → m * up e * 2 ^ 1074 / down e ≡ A
quotient m e A h = ap (λ (x : ℕ). x / down e) h ∙ mul-div_cancel A (down_pos e)

written : (x : Float) (A : ℕ) → HasValue x false A (2 ^ 1074) → to_bits binary64 x ≡ 0 + (size A - 53) * 2 ^ 52 + A / 2 ^ (size A - 53)
unfolding to_bits
written nan A h = absurd h
written (inf s) A h = absurd h
written (fin true m e) A h = absurd (true≢false h.0)
written (fin false m e) A h = ap (λ (x : ℕ). 0 + (size x - 53) * 2 ^ 52 + x / 2 ^ (size x - 53)) (quotient m e A h.1)

digits_of : (q K : ℕ) → 2 ^ 52 ≤ q → q < 2 ^ 53 → size (q * 2 ^ K) - 53 ≡ K
digits_of q K lo hi =
    let a : 2 ^ (52 + K) ≤ q * 2 ^ K = le_trans (le_of_eq (pow-add 2 52 K)) (mul-le-mul_right (2 ^ K) lo) in
    let b : q * 2 ^ K < 2 ^ (53 + K) = shl_lt 53 K hi in
    ap (λ (x : ℕ). x - 53) (size_exact (52 + K) (q * 2 ^ K) a (subst (λ (x : ℕ). q * 2 ^ K < 2 ^ x) (one_more K) b)) ∙ back K
  where
    one_more : (K : ℕ) → 53 + K ≡ suc (52 + K)
    one_more K = omega arith

    back : (K : ℕ) → suc (52 + K) - 53 ≡ K
    back K = omega arith

units_odd : (q K : ℕ) → q * 2 ^ K < 2 ^ 2098 → units binary64 false q K ≡ odd 54 false q K 1074
unfolding units
units_odd q K h = go (ltb (q * 2 ^ K) (2 ^ 2098)) (lt→ltb (q * 2 ^ K) (2 ^ 2098) h)
  where
    go : (b : Bool) → T b → cond b (odd 54 false q K 1074) (inf false) ≡ odd 54 false q K 1074
    go true t = refl
    go false t = absurd t

room : (K : ℕ) → K ≤ 2045 → 53 + K ≤ 2098
room K h = omega arith

pub of_units : (q K : ℕ) → 2 ^ 52 ≤ q → q < 2 ^ 53 → K ≤ 2045 → of_bits binary64 (K * 2 ^ 52 + q) ≡ units binary64 false q K
of_units q K lo hi k =
    let v = odd 54 false q K 1074 in
    let small : q * 2 ^ K < 2 ^ 2098 = lt_of_lt_of_le (shl_lt 53 K hi) (pow_mono (room K k)) in
    let f : T (fits binary64 v) = odd-fits binary64 54 false q K (omega arith) (le_of_lt hi) small in
    let b : to_bits binary64 v ≡ K * 2 ^ 52 + q =
    written v (q * 2 ^ K) (odd_sign 54 false q K 1074)
    ∙ ap (λ (x : ℕ). 0 + x * 2 ^ 52 + q * 2 ^ K / 2 ^ x) (digits_of q K lo hi)
    ∙ ap (λ (x : ℕ). 0 + K * 2 ^ 52 + x) (mul-div_cancel q (pow_pos K))
    ∙ tidy (K * 2 ^ 52) q in
    ap (of_bits binary64) (sym b) ∙ of_bits-to_bits binary64 v f ∙ sym (units_odd q K small)
  where
    tidy : (a q : ℕ) → 0 + a + q ≡ a + q
    tidy a q = omega arith

-- ---- the number with the digits nearest to a root is that root
pub scaled_root : (a k q : ℕ) → 2 ^ 52 ≤ a → a + 2 ≤ 2 ^ 54 → k ≤ 2045 → NearestRoot a q → ScaledRoot a k (of_bits binary64 (k * 2 ^ 52 + q))
scaled_root a k q lo hi h near = λ n e. of_units q k near.least near.most h ∙ sym (root_units n a k q e lo (go a hi) near)
  where
    go : (a : ℕ) → a + 2 ≤ 2 ^ 54 → a < 2 ^ 54
    go a h = omega arith

-- ---- `square_root` of a value above zero
no_size : (e : ℤ) (A : ℕ) → 0 < A → 0 * up e * 2 ^ 1074 ≡ A * down e → ⊥
no_size e A p h = go (A * down e) (mul-pos p (down_pos e)) (sym h ∙ zero_mul_of (up e))
  where
    zero_mul_of : (u : ℕ) → 0 * u * 2 ^ 1074 ≡ 0
    zero_mul_of u = ap (λ (x : ℕ). x * 2 ^ 1074) (zero-mul u) ∙ zero-mul (2 ^ 1074)

    go : (x : ℕ) → 0 < x → x ≡ 0 → ⊥
    go x a b = omega arith

pub root_at : (x : Float) (A : ℕ) → HasValue x false A (2 ^ 1074) → 0 < A → square_root binary64 x ≡ root_of_units binary64 A
unfolding square_root
root_at nan A h p = absurd h
root_at (inf s) A h p = absurd h
root_at (fin true m e) A h p = absurd (true≢false h.0)
root_at (fin false zero e) A h p = absurd (no_size e A p h.1)
root_at (fin false (suc m) e) A h p = ap (root_of_units binary64) (quotient (suc m) e A h.1)
