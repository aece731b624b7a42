-- The rounding error of one division by a finite y: y fl(x / y) is within 2 ^ -prec |x| and half a unit times |y| of x. First over the sign
-- parts, then over the integers. Assumes nothing.
use Rattle.std.specs.Prelude.{◌≡◌, Bool, true, false, cond, ℕ, ◌+◌, ◌-◌, ◌*◌, ◌^◌, ◌≤◌, ◌<◌, pos, nat_abs, ◌-ℤ◌, ◌*ℤ◌, T, eqb, Float}
use Rattle.std.proofs.Common.{sym, ap, ap₂, ◌∙◌, subst, le_trans, mul_assoc, mul_right_comm, mul-le-mul_right, le_of_mul-le-mul_right, mul-pos, pos_of_ne-zero, arith}
use Rattle.std.proofs.Math.Dec.{eqb_refl}
use Rattle.std.specs.Float.{nan, inf, fin, Format}
use Rattle.std.specs.Float.Ieee.{prec, low, unlike, up, down, round, fits, div}
use Rattle.std.specs.Float.Ieee.Fits.{down_pos, up_pos}
use Rattle.std.specs.Float.Ieee.Scale.{finite}
use Rattle.rounding.specs.Distance.{dist, dist-mul}
use Rattle.rounding.specs.Integers.{difference_sub, difference_mul, difference_scale, abs_difference}
use Rattle.number.specs.Units.{units_of, units_whole}
use Rattle.rounding.specs.Units.{positive_part, negative_part, exact, exact_difference, parts_size, positive_product, negative_product, common_left, common_right}
use Rattle.rounding.specs.RoundingError.{SignedSize, signed_size, Rounded, rounded}
use Rattle.rounding.specs.FiniteOperands.{not_finite}

-- The dividend is px - nx units, the divisor py - ny, the computed quotient pw - nw; L is 2 ^ low, the units in 1, and U is 2 ^ prec.
-- Quotient times divisor is set against the dividend.
abbrev DivisionError : (px nx py ny pw nw L U : ℕ) → Type 0
DivisionError px nx py ny pw nw L U = dist (pw * py + nw * ny + nx * L) (pw * ny + nw * py + px * L) * 2 * U ≤ (px + nx) * L * 2 + (py + ny) * U

signs : (s t : Bool) (zx zy r L U : ℕ) → dist (r * zy) (zx * L) * 2 * U ≤ zx * L * 2 + zy * U
    → DivisionError (cond s 0 zx) (cond s zx 0) (cond t 0 zy) (cond t zy 0) (cond (unlike s t) 0 r) (cond (unlike s t) r 0) L U
signs s t zx zy r L U h = le_trans (mul-le-mul_right U (left s t)) (le_trans h (right s t))
  where
    left : (s t : Bool) → dist (cond (unlike s t) 0 r * cond t 0 zy + cond (unlike s t) r 0 * cond t zy 0 + cond s zx 0 * L)
        (cond (unlike s t) 0 r * cond t zy 0 + cond (unlike s t) r 0 * cond t 0 zy + cond s 0 zx * L) * 2 ≤ dist (r * zy) (zx * L) * 2
    left true true = omega arith
    left true false = omega arith
    left false true = omega arith
    left false false = omega arith

    right : (s t : Bool) → zx * L * 2 + zy * U ≤ (cond s 0 zx + cond s zx 0) * L * 2 + (cond t 0 zy + cond t zy 0) * U
    right true true = omega arith
    right true false = omega arith
    right false true = omega arith
    right false false = omega arith

-- a quotient num / den of r units, for a dividend of zx units and a divisor of zy, both over c
quotient_error : (r zx zy num den c L U : ℕ) → 0 < c → num * L ≡ zx * c → den * L ≡ zy * c → dist (r * den) (num * L) * 2 * U ≤ num * L * 2 + den * U
    → dist (r * zy) (zx * L) * 2 * U ≤ zx * L * 2 + zy * U
quotient_error r zx zy num den c L U C p q h =
    cancel (dist (r * den) (num * L)) (dist (r * zy) (zx * L))
    (sym (dist-mul (r * zy) (zx * L) c)
    ∙ ap₂ (λ (x y : ℕ). dist x y) (mul_assoc r zy c ∙ ap (λ (z : ℕ). r * z) (sym q) ∙ sym (mul_assoc r den L))
    (mul_right_comm zx L c ∙ ap (λ (z : ℕ). z * L) (sym p))
    ∙ dist-mul (r * den) (num * L) L) h
  where
    cancel : (D0 D1 : ℕ) → D1 * c ≡ D0 * L → D0 * 2 * U ≤ num * L * 2 + den * U → D1 * 2 * U ≤ zx * L * 2 + zy * U
    cancel D0 D1 e h =
        let k : D1 * c * (2 * U) ≡ D0 * L * (2 * U) = ap (λ (x : ℕ). x * (2 * U)) e in
        let i : D0 * 2 * U * L ≤ (num * L * 2 + den * U) * L = mul-le-mul_right L h in
        let p' : num * L * L ≡ zx * c * L = ap (λ (x : ℕ). x * L) p in
        let q' : den * L * U ≡ zy * c * U = ap (λ (x : ℕ). x * U) q in
        let l : D1 * 2 * U * c ≤ (zx * L * 2 + zy * U) * c = omega arith in
        le_of_mul-le-mul_right l C

-- ---- the error of fl(x / y), over the sign parts
pub div_parts : (f : Format) (x y : Float) → T (fits f x) → T (fits f y) → T (finite y) → T (finite (div f x y))
    → dist (positive_product f (div f x y) y + negative_part f x * 2 ^ low f) (negative_product f (div f x y) y + positive_part f x * 2 ^ low f) * 2 * 2 ^ prec f
    ≤ (positive_part f x + negative_part f x) * 2 ^ low f * 2 + (positive_part f y + negative_part f y) * 2 ^ prec f
unfolding div
div_parts f nan y hx hy g k = absurd k
div_parts f (inf s) nan hx hy g k = absurd k
div_parts f (inf s) (inf t) hx hy g k = absurd k
div_parts f (inf s) (fin t n d) hx hy g k = absurd k
div_parts f (fin s m e) nan hx hy g k = absurd k
div_parts f (fin s m e) (inf t) hx hy g k = absurd g
div_parts f (fin s m e) (fin t n d) hx hy g k = go (eqb n 0) (λ (z : n ≡ 0). subst (λ (x : ℕ). T (eqb n x)) z (eqb_refl n)) k
  where
    x : Float
    x = fin s m e

    y : Float
    y = fin t n d

    q : Float
    q = round f (unlike s t) (m * up e * down d) (n * up d * down e)

    go : (c : Bool) → (n ≡ 0 → T c) → T (finite (cond c (cond (eqb m 0) nan (inf (unlike s t))) q))
        → DivisionError (positive_part f x) (negative_part f x) (positive_part f y) (negative_part f y)
        (positive_part f (cond c (cond (eqb m 0) nan (inf (unlike s t))) q)) (negative_part f (cond c (cond (eqb m 0) nan (inf (unlike s t))) q))
        (2 ^ low f) (2 ^ prec f)
    go true z k = absurd (not_finite (eqb m 0) (unlike s t) k)
    go false z k =
        let i : SignedSize f x s (units_of f x) = signed_size f s m e in
        let j : SignedSize f y t (units_of f y) = signed_size f t n d in
        let R : Rounded f (unlike s t) (m * up e * down d) (n * up d * down e) q =
        rounded f (unlike s t) (m * up e * down d) (n * up d * down e) (mul-pos (mul-pos (pos_of_ne-zero z) (up_pos d)) (down_pos e)) k in
        rw (i.positive, i.negative, j.positive, j.negative, R.sized.positive, R.sized.negative)
        (signs s t (units_of f x) (units_of f y) R.r (2 ^ low f) (2 ^ prec f)
        (quotient_error R.r (units_of f x) (units_of f y) (m * up e * down d) (n * up d * down e) (down e * down d) (2 ^ low f) (2 ^ prec f)
        (mul-pos (down_pos e) (down_pos d))
        (sym (common_left (units_of f x) (m * up e) (down e) (down d) (2 ^ low f) (units_whole f s m e hx)))
        (sym (common_right (units_of f y) (n * up d) (down e) (down d) (2 ^ low f) (units_whole f t n d hy))) R.error))

-- ---- over the integers
-- |fl(x / y) y - x| ≤ 2 ^ -prec |x| + 2 ^ -(low + 1) |y|
pub div_error : (f : Format) (x y : Float) → T (fits f x) → T (fits f y) → T (finite y) → T (finite (div f x y))
    → nat_abs (exact f (div f x y) *ℤ exact f y -ℤ exact f x *ℤ pos (2 ^ low f)) * 2 * 2 ^ prec f ≤ units_of f x * 2 ^ low f * 2 + units_of f y * 2 ^ prec f
div_error f x y hx hy g k =
    rw (
      abs_difference (difference_sub (difference_mul (exact_difference f (div f x y)) (exact_difference f y))
          (difference_scale (exact_difference f x) (2 ^ low f))),
      ← parts_size f x,
      ← parts_size f y,
    )
    (div_parts f x y hx hy g k)
