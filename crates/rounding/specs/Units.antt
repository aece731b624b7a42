-- The exact value of a finite floating-point number as a whole number of units, one unit being the format's smallest positive value
-- 2 ^ -low (2 ^ -1074 in binary64): its two sign parts and the integer (its size, `units_of`, is in number's Units). Assumes nothing.
use Rattle.std.specs.Prelude.{◌≡◌, refl, ◌⊎◌, true, false, ℕ, ◌+◌, ◌-◌, ◌*◌, ◌/◌, ◌^◌, ℤ, pos, neg_ℤ, nat_abs, Float}
use Rattle.std.proofs.Common.{sym, ap, ap₂, ◌∙◌, inl, inr, zero-add, add-zero, arith}
use Rattle.std.specs.Float.{nan, inf, fin, Format}
use Rattle.std.specs.Float.Ieee.{low, up, down, neg}
use Rattle.number.specs.Units.{units_of}
use Rattle.rounding.specs.Integers.{Difference, difference_neg, difference_nat, abs_neg, Parts}

-- the value of x in units, the integer x * 2 ^ low; 0 for what is not finite
unfoldable pub exact : Format → Float → ℤ
unfolding units_of
exact f nan = pos 0
exact f (inf s) = pos 0
exact f (fin false m e) = pos (units_of f (fin false m e))
exact f (fin true m e) = neg_ℤ (pos (units_of f (fin true m e)))

-- the positive part max(x, 0) in units
unfoldable pub positive_part : Format → Float → ℕ
unfolding units_of
positive_part f nan = 0
positive_part f (inf s) = 0
positive_part f (fin false m e) = units_of f (fin false m e)
positive_part f (fin true m e) = 0

-- the negative part max(-x, 0) in units
unfoldable pub negative_part : Format → Float → ℕ
unfolding units_of
negative_part f nan = 0
negative_part f (inf s) = 0
negative_part f (fin false m e) = 0
negative_part f (fin true m e) = units_of f (fin true m e)

-- over the product of two denominators each size is the numerator that `add` and `div` take
pub common_left : (z m de dd L : ℕ) → z * de ≡ m * L → z * (de * dd) ≡ m * dd * L
common_left z m de dd L e = omega (arith, ap (λ (x : ℕ). x * dd) e)

pub common_right : (z n de dd L : ℕ) → z * dd ≡ n * L → z * (de * dd) ≡ n * de * L
common_right z n de dd L e = omega (arith, ap (λ (x : ℕ). x * de) e)

-- ---- the parts, the size and the integer
-- x = x⁺ - x⁻
pub exact_difference : (f : Format) (x : Float) → Difference (exact f x) (positive_part f x) (negative_part f x)
unfolding exact positive_part negative_part
exact_difference f nan = difference_nat 0
exact_difference f (inf s) = difference_nat 0
exact_difference f (fin false m e) = difference_nat (units_of f (fin false m e))
exact_difference f (fin true m e) = difference_neg (difference_nat (units_of f (fin true m e)))

-- |x| = x⁺ + x⁻
pub parts_size : (f : Format) (x : Float) → positive_part f x + negative_part f x ≡ units_of f x
unfolding positive_part negative_part units_of
parts_size f nan = refl
parts_size f (inf s) = refl
parts_size f (fin true m e) = zero-add (m * up e * 2 ^ low f / down e)
parts_size f (fin false m e) = add-zero (m * up e * 2 ^ low f / down e)

-- |x| is the size of the integer
pub exact_size : (f : Format) (x : Float) → nat_abs (exact f x) ≡ units_of f x
unfolding exact units_of
exact_size f nan = refl
exact_size f (inf s) = refl
exact_size f (fin false m e) = refl
exact_size f (fin true m e) = abs_neg (pos (m * up e * 2 ^ low f / down e))

pub exact_parts : (f : Format) (x : Float) → Parts (exact f x) (positive_part f x) (negative_part f x)
exact_parts f x = record { difference = exact_difference f x; size = parts_size f x ∙ sym (exact_size f x) }

-- the positive and the negative part of x * y, in units of 2 ^ -(2 low)
abbrev pub positive_product : Format → Float → Float → ℕ
positive_product f x y = positive_part f x * positive_part f y + negative_part f x * negative_part f y

abbrev pub negative_product : Format → Float → Float → ℕ
negative_product f x y = positive_part f x * negative_part f y + negative_part f x * positive_part f y

-- |x y|, by its parts and by the sizes of x and y
pub product_size : (f : Format) (x y : Float) → positive_product f x y + negative_product f x y ≡ units_of f x * units_of f y
product_size f x y =
    multiply (positive_part f x) (negative_part f x) (positive_part f y) (negative_part f y)
    ∙ ap₂ (λ (a b : ℕ). a * b) (parts_size f x) (parts_size f y)
  where
    multiply : (a b c d : ℕ) → a * c + b * d + (a * d + b * c) ≡ (a + b) * (c + d)
    multiply a b c d = omega arith

-- one of the two parts is 0
pub one_sign : (f : Format) (x : Float) → (positive_part f x ≡ 0) ⊎ (negative_part f x ≡ 0)
unfolding positive_part negative_part
one_sign f nan = inl refl
one_sign f (inf s) = inl refl
one_sign f (fin true m e) = inl refl
one_sign f (fin false m e) = inr refl

-- negation swaps the parts
pub neg_positive : (f : Format) (x : Float) → positive_part f (neg x) ≡ negative_part f x
unfolding positive_part negative_part neg units_of
neg_positive f nan = refl
neg_positive f (inf s) = refl
neg_positive f (fin true m e) = refl
neg_positive f (fin false m e) = refl

pub neg_negative : (f : Format) (x : Float) → negative_part f (neg x) ≡ positive_part f x
unfolding positive_part negative_part neg units_of
neg_negative f nan = refl
neg_negative f (inf s) = refl
neg_negative f (fin true m e) = refl
neg_negative f (fin false m e) = refl
