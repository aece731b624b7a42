-- A signed number of 32 bits and its two's complement, each from the other. Assumes nothing.
use Rattle.std.specs.Prelude.{◌≡◌, refl, Bool, true, false, cond, ℕ, suc, ◌-◌, ◌^◌, ◌<◌, ℤ, pos, negsuc, ltb}
use Rattle.std.proofs.Common.{sym, ap, ◌∙◌}
use Rattle.std.specs.Int.{w32}
use mir.Val.{SFits, to_z, of_z, sel}
use mir.ValLaws.{to_z-of_z, of_z-to_z, of_z_fits, to_z-Fits}

-- the 32 bits of a count, as a number: a count below zero, -(n + 1), is 2 ^ 32 - (n + 1)
abbrev pub pattern_of : ℤ → ℕ
pattern_of (pos n) = n
pattern_of (negsuc n) = 2 ^ 32 - suc n

-- the count of 32 bits
abbrev pub days_of : ℕ → ℤ
days_of p = cond (ltb p (2 ^ 31)) (pos p) (negsuc (2 ^ 32 - suc p))

-- ---- they are the machine's own readings of a signed number
pub pattern_is : (z : ℤ) → pattern_of z ≡ of_z w32 z
pattern_is (pos n) = refl
pattern_is (negsuc n) = refl

by_test : (b : Bool) (x y : ℤ) → cond b x y ≡ sel b x y
by_test true x y = refl
by_test false x y = refl

pub days_is : (p : ℕ) → days_of p ≡ to_z w32 p
days_is p = by_test (ltb p (2 ^ 31)) (pos p) (negsuc (2 ^ 32 - suc p))

-- ---- they undo each other, on every count and every pattern of 32 bits
pub days_back : (z : ℤ) → SFits w32 z → days_of (pattern_of z) ≡ z
days_back z f = days_is (pattern_of z) ∙ ap (to_z w32) (pattern_is z) ∙ to_z-of_z w32 z f

pub pattern_back : (p : ℕ) → p < 2 ^ 32 → pattern_of (days_of p) ≡ p
pattern_back p h = pattern_is (days_of p) ∙ ap (of_z w32) (days_is p) ∙ of_z-to_z w32 p (record { fits = h })

pub pattern_fits : (z : ℤ) → SFits w32 z → pattern_of z < 2 ^ 32
pattern_fits z f = rw (pattern_is z) (of_z_fits w32 z f).fits

pub days_fit : (p : ℕ) → p < 2 ^ 32 → SFits w32 (days_of p)
days_fit p h = rw (days_is p) (to_z-Fits w32 p (record { fits = h }))

-- ---- at fixed counts: 2000-01-01, the day before, the least and the largest
day_0 : pattern_of (pos 0) ≡ 0
day_0 = refl

day_before : pattern_of (negsuc 0) ≡ 0xffff_ffff
day_before = refl

least : pattern_of (negsuc 2147483647) ≡ 0x8000_0000
least = refl

largest : days_of 0x7fff_ffff ≡ pos 2147483647
largest = refl

least_back : days_of 0x8000_0000 ≡ negsuc 2147483647
least_back = refl
