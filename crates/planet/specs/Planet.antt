-- Document 02, W8: what the gm and the radius of a model file must be; and that a bit pattern is that of such a number exactly where it lies
-- between those of +0 and of plus infinity. Assumes nothing.
use Rattle.std.specs.Prelude.{◌≡◌, Bool, not, cond, ◌&&◌, ℕ, zero, suc, ◌+◌, ◌*◌, ◌/◌, ◌%◌, ◌^◌, ◌≤◌, ◌<◌, T, eqb, ltb}
use Rattle.std.proofs.Math.Path.{refl}
use Rattle.std.proofs.Common.{sym, ap, ◌∙◌, mul-pos, pow_pos}
use Rattle.std.proofs.Math.Bool.{true, false}
use native.Mathlib.Omega.{arith}
use Rattle.std.proofs.Math.Dec.{leb}
use Rattle.std.specs.Float.{nan, inf}
use Rattle.std.specs.Float.Ieee.{binary64, odd, of_fields, of_bits}
use Rattle.std.specs.Float.Ieee.Exact.{odd_sign}
use Rattle.std.specs.Float.Ieee.Bits.{is_true}
use Rattle.std.specs.Float.Ieee.Positive.{positive, positive_of_value}
use borrow.Author.Tests.{lt-leb, leb-false, ltb-true, ltb-false, ne_eqb}

-- the double with this bit pattern is finite and above zero
abbrev pub above_zero : ℕ → Bool
above_zero p = positive (of_bits binary64 p)

-- gm and radius, by their bit patterns, are finite and above zero
abbrev pub describes_planet : ℕ → ℕ → Bool
describes_planet gm radius = above_zero gm && above_zero radius

-- ---- by the fields of a pattern: sign, exponent, fraction
odd_positive : (d q k l : ℕ) → 0 < q → T (positive (odd d false q k l))
odd_positive d q k l h = positive_of_value (odd d false q k l) (q * 2 ^ k) (2 ^ l) (odd_sign d false q k l) (mul-pos h (pow_pos k))

fields_positive : (x t : ℕ) → x < 2047 → 0 < x + t → T (positive (of_fields binary64 false x t))
unfolding of_fields
fields_positive zero t h p = odd_positive 53 t 0 1074 (omega arith)
fields_positive (suc x) t h p = rw (ne_eqb (suc x) 2047 (λ e. omega arith)) (odd_positive 53 (2 ^ 52 + t) x 1074 (omega arith))

odd_minus : (d q k l : ℕ) → positive (odd d true q k l) ≡ false
unfolding odd
odd_minus d zero k l = refl
odd_minus d (suc q) k l = refl

fields_minus : (x t : ℕ) → positive (of_fields binary64 true x t) ≡ false
unfolding of_fields
fields_minus zero t = odd_minus 53 t 0 1074
fields_minus (suc x) t = go (eqb (suc x) 2047) (eqb t 0)
  where
    go : (a b : Bool) → positive (cond a (cond b (inf true) nan) (odd 53 true (2 ^ 52 + t) x 1074)) ≡ false
    go true true = refl
    go true false = refl
    go false b = odd_minus 53 (2 ^ 52 + t) x 1074

fields_top : (s : Bool) (t : ℕ) → positive (of_fields binary64 s 2047 t) ≡ false
unfolding of_fields
fields_top s t = go (eqb t 0)
  where
    go : (b : Bool) → positive (cond b (inf s) nan) ≡ false
    go true = refl
    go false = refl

-- ---- by the pattern as a number: 2^63 is the pattern of −0, 0x7ff0_0000_0000_0000 that of plus infinity
module _ (p : ℕ) where
  pub between_is_above : 0 < p → p < 0x7ff0_0000_0000_0000 → T (above_zero p)
  unfolding of_bits
  between_is_above h l =
      let e : p % 9223372036854775808 ≡ p = omega arith in
      rw (lt-leb 9223372036854775808 p (omega arith), e) (fields_positive (p / 4503599627370496) (p % 4503599627370496) (omega arith) (omega arith))

  -- plus infinity, NaN, and every number with a sign
  pub from_infinity_is_not : 0x7ff0_0000_0000_0000 ≤ p → p < 2 ^ 64 → above_zero p ≡ false
  unfolding of_bits
  from_infinity_is_not h l = go (leb 9223372036854775808 p) refl
    where
      go : (b : Bool) → leb 9223372036854775808 p ≡ b → positive (of_fields binary64 b (p % 9223372036854775808 / 4503599627370496) (p % 4503599627370496)) ≡ false
      go true k = fields_minus (p % 9223372036854775808 / 4503599627370496) (p % 4503599627370496)
      go false k =
          let m = leb-false 9223372036854775808 p k in
          let e : p % 9223372036854775808 / 4503599627370496 ≡ 2047 = omega arith in
          rw e (fields_top false (p % 4503599627370496))

pub zero_is_not : above_zero 0 ≡ false
unfolding of_bits
zero_is_not = refl

-- ---- the tests that code makes
pub not_zero_test : (p : ℕ) → (p ≡ 0 → ⊥) → p < 2 ^ 64 → ltb p 0x7ff0_0000_0000_0000 ≡ above_zero p
not_zero_test p some fit = go (ltb p 0x7ff0_0000_0000_0000) refl
  where
    go : (b : Bool) → ltb p 0x7ff0_0000_0000_0000 ≡ b → b ≡ above_zero p
    go true h = sym (is_true (above_zero p) (between_is_above p (omega arith) (ltb-true p 0x7ff0_0000_0000_0000 h)))
    go false h = sym (from_infinity_is_not p (ltb-false p 0x7ff0_0000_0000_0000 h) fit)

pub zero_test : (p : ℕ) → p ≡ 0 → false ≡ above_zero p
zero_test p e = sym (ap above_zero e ∙ zero_is_not)

pub first_fails : (a b : Bool) → not a ≡ true → false ≡ (a && b)
first_fails true b h = absurd (let z : ◌≡◌ {A = ℕ} 0 1 = cc in omega arith)
first_fails false b h = refl

pub first_holds : (a b : Bool) → not a ≡ false → b ≡ (a && b)
first_holds true b h = refl
first_holds false b h = absurd (let z : ◌≡◌ {A = ℕ} 0 1 = cc in omega arith)

-- ---- at fixed patterns: 2^−1074, the largest double, −0, −2^−1074, the infinities, NaN of either sign
least : above_zero 1 ≡ true
unfolding of_bits of_fields odd
least = refl

largest : above_zero 0x7fef_ffff_ffff_ffff ≡ true
unfolding of_bits of_fields odd
largest = refl

minus_zero : above_zero 0x8000_0000_0000_0000 ≡ false
unfolding of_bits of_fields odd
minus_zero = refl

minus_least : above_zero 0x8000_0000_0000_0001 ≡ false
unfolding of_bits of_fields odd
minus_least = refl

infinity : above_zero 0x7ff0_0000_0000_0000 ≡ false
unfolding of_bits of_fields
infinity = refl

minus_infinity : above_zero 0xfff0_0000_0000_0000 ≡ false
unfolding of_bits of_fields
minus_infinity = refl

not_a_number : above_zero 0x7ff0_0000_0000_0001 ≡ false
unfolding of_bits of_fields
not_a_number = refl

minus_not_a_number : above_zero 0xffff_ffff_ffff_ffff ≡ false
unfolding of_bits of_fields
minus_not_a_number = refl
