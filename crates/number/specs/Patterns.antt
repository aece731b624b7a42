-- Numbers and bit patterns: they undo each other off NaN, a NaN's pattern gives the one NaN, and the sign is the top bit. Assumes nothing.
use Rattle.std.specs.Prelude.{◌≡◌, refl, Bool, true, false, not, cond, ℕ, zero, suc, ◌+◌, ◌*◌, ◌%◌, ◌^◌, ◌≤◌, ◌<◌, ℤ, T, leb}
use Rattle.std.proofs.Common.{sym, ap, ◌∙◌, subst, arith, lt-ltb, le-ltb, le-leb}
use Rattle.std.proofs.lemmas.Bool.{lt-leb}
use lib.Ieee.{Float, nan, inf, fin, binary64, is_nan, fits, ne, div, of_bits, nan_bits, to_bits}
use Rattle.std.specs.Float.Ieee.Compare.{differs_from_itself, nan_differs}
use Rattle.std.specs.Float.Ieee.Bits.{nan_bits_is, nan_bits_above, to_bits-lt, to_bits-of_bits, of_bits-to_bits}
use Rattle.number.specs.Float64.{◌⊘◌, double, zero64}
use Rattle.number.specs.Sign.{negative, magnitude_of}

-- ---- a number differs from itself where it is NaN, and only there
pub differs_nan : (x : Float) → ne x x ≡ true → x ≡ nan
differs_nan x h = differs_from_itself x (subst T (sym h) tt)

pub differs_is_nan : (x : Float) → ne x x ≡ true → is_nan x ≡ true
unfolding is_nan
differs_is_nan x h = ap is_nan (differs_nan x h)

pub self_number : (x : Float) → ne x x ≡ false → is_nan x ≡ false
unfolding is_nan
self_number nan h = sym nan_differs ∙ h
self_number (inf s) h = refl
self_number (fin s m e) h = refl

pub no_nan : (x : Float) → is_nan x ≡ false → T (not (is_nan x))
no_nan x h = subst (λ (b : Bool). T (not b)) (sym h) tt

-- ---- NaN's patterns
is_nan_lem : (x : Float) → is_nan x ≡ true → x ≡ nan
unfolding is_nan
is_nan_lem nan h = refl
is_nan_lem (inf s) h = let z : ◌≡◌ {A = ℕ} 0 1 = cc in absurd (omega arith)
is_nan_lem (fin s m e) h = let z : ◌≡◌ {A = ℕ} 0 1 = cc in absurd (omega arith)

pub nan_pattern : (n : ℕ) → 0x7ff0_0000_0000_0000 < n % 0x8000_0000_0000_0000 → double n ≡ nan
nan_pattern n h =
    is_nan_lem _ (sym (nan_bits_is binary64 n) ∙ nan_bits_above binary64 n ∙ lt-ltb 0x7ff0_0000_0000_0000 (n % 0x8000_0000_0000_0000) h)

pub number_pattern : (n : ℕ) → n % 0x8000_0000_0000_0000 ≤ 0x7ff0_0000_0000_0000 → T (not (nan_bits binary64 n))
number_pattern n h = rw (nan_bits_above binary64 n, le-ltb 0x7ff0_0000_0000_0000 (n % 0x8000_0000_0000_0000) h) tt

pub nan_bits_lem : to_bits binary64 nan ≡ 0x7ff8_0000_0000_0000
unfolding to_bits
nan_bits_lem = refl

pub zero_by_zero : zero64 ⊘ zero64 ≡ nan
unfolding div of_bits
zero_by_zero = refl

-- a pattern of a number, back from the number (the other way round it is `of_bits-to_bits` of lib.Ieee.Bits)
pub bits_back : (n : ℕ) → n < 2 ^ 64 → n % 0x8000_0000_0000_0000 ≤ 0x7ff0_0000_0000_0000 → to_bits binary64 (double n) ≡ n
bits_back n l h = to_bits-of_bits binary64 n l (subst (λ (b : Bool). T (not b)) (nan_bits_is binary64 n) (number_pattern n h))

-- ---- the sign is the top bit
fits_sign : (s t : Bool) (m : ℕ) (e : ℤ) → T (fits binary64 (fin s m e)) → T (fits binary64 (fin t m e))
unfolding fits
fits_sign s t zero e h = h
fits_sign s t (suc m) e h = h

pub magnitude_fits : (x : Float) → T (fits binary64 x) → T (fits binary64 (magnitude_of x))
unfolding magnitude_of fits
magnitude_fits nan h = tt
magnitude_fits (inf s) h = tt
magnitude_fits (fin s m e) h = fits_sign s false m e h

-- the bits of x are those of its magnitude, with the top bit where x is negative
pub record SignBit (x : Float) : Type 0 where
  pub is : to_bits binary64 x ≡ cond (negative x) (2 ^ 63) 0 + to_bits binary64 (magnitude_of x)
  pub small : to_bits binary64 (magnitude_of x) < 2 ^ 63

split : (s : Bool) (a b : ℕ) → cond s (2 ^ 63) 0 + a + b ≡ cond s (2 ^ 63) 0 + (0 + a + b)
split true a b = omega arith
split false a b = omega arith

less : (a b : ℕ) → 2 ^ 63 + a + b < 2 * 2 ^ 63 → 0 + a + b < 2 ^ 63
less a b h = omega arith

pub sign_bit : (x : Float) → T (fits binary64 x) → is_nan x ≡ false → SignBit x
unfolding to_bits negative magnitude_of is_nan
sign_bit nan h k = let z : ◌≡◌ {A = ℕ} 0 1 = cc in absurd (omega arith)
sign_bit (inf true) h k = record { is = refl; small = omega arith }
sign_bit (inf false) h k = record { is = refl; small = omega arith }
sign_bit (fin s m e) h k = record { is = split s _ _; small = less _ _ (to_bits-lt binary64 (fin true m e) (fits_sign s true m e h)) }

pub bits_negative : (x : Float) → T (fits binary64 x) → is_nan x ≡ false → leb 0x8000_0000_0000_0000 (to_bits binary64 x) ≡ negative x
bits_negative x h k = let b = sign_bit x h k in go (negative x) (to_bits binary64 (magnitude_of x)) b.small b.is
  where
    go : (s : Bool) (a : ℕ) → a < 2 ^ 63 → {n : ℕ} → n ≡ cond s (2 ^ 63) 0 + a → leb 0x8000_0000_0000_0000 n ≡ s
    go true a l {n} e = le-leb 0x8000_0000_0000_0000 n (omega arith)
    go false a l {n} e = lt-leb 0x8000_0000_0000_0000 n (omega arith)

pub bits_magnitude : (x : Float) → T (fits binary64 x) → is_nan x ≡ false → to_bits binary64 x % 0x8000_0000_0000_0000 ≡ to_bits binary64 (magnitude_of x)
bits_magnitude x h k = let b = sign_bit x h k in go (negative x) (to_bits binary64 (magnitude_of x)) b.small b.is
  where
    go : (s : Bool) (a : ℕ) → a < 2 ^ 63 → {n : ℕ} → n ≡ cond s (2 ^ 63) 0 + a → n % 0x8000_0000_0000_0000 ≡ a
    go true a l {n} e = omega arith
    go false a l {n} e = omega arith

-- ---- what a mask of the sign bit gives
magnitude_number : (x : Float) → is_nan x ≡ false → is_nan (magnitude_of x) ≡ false
unfolding is_nan magnitude_of
magnitude_number nan h = h
magnitude_number (inf s) h = refl
magnitude_number (fin s m e) h = refl

pub magnitude_nan : (x : Float) → ne x x ≡ true → x ≡ magnitude_of x
unfolding magnitude_of
magnitude_nan x h = let e = differs_nan x h in e ∙ sym (ap magnitude_of e)

pub masked : (x : Float) → T (fits binary64 x) → is_nan x ≡ false → double (to_bits binary64 x % 0x8000_0000_0000_0000) ≡ magnitude_of x
masked x h k = ap (of_bits binary64) (bits_magnitude x h k) ∙ of_bits-to_bits binary64 (magnitude_of x) (magnitude_fits x h)

pub masked_number : (x : Float) → T (fits binary64 x) → is_nan x ≡ false → T (not (nan_bits binary64 (to_bits binary64 x % 0x8000_0000_0000_0000)))
unfolding is_nan
masked_number x h k =
    rw (nan_bits_is binary64 (to_bits binary64 x % 0x8000_0000_0000_0000)) (no_nan (double (to_bits binary64 x % 0x8000_0000_0000_0000)) (ap is_nan (masked x h k) ∙ magnitude_number x k))
