-- The rounding error of one multiplication: fl(x y) is within 2 ^ -prec |x y| and half a unit (2 ^ -1075 in binary64) of x y; within
-- 2 ^ -prec |fl(x y)| where fl(x y) is normal; exact where x y is representable. First over the sign parts, then over the integers. Assumes nothing.
use Rattle.std.specs.Prelude.{◌≡◌, Bool, true, false, cond, ℕ, ◌+◌, ◌-◌, ◌*◌, ◌^◌, ◌≤◌, ◌<◌, pos, nat_abs, ◌-ℤ◌, ◌*ℤ◌, T, eqb, Float}
use Rattle.std.proofs.Common.{sym, ap₂, ◌∙◌, subst₂, mul_right_comm, mul-le-mul_right, le_of_mul-le-mul_right, mul-pos, arith, pow_pos}
use Rattle.std.proofs.Math.Path.{ap}
use Rattle.std.proofs.Math.Nat.{eq_of_mul-eq-mul_right}
use Rattle.std.specs.Float.{nan, inf, fin, Format}
use Rattle.std.specs.Float.Ieee.{prec, low, unlike, up, down, round, fits, mul}
use Rattle.std.specs.Float.Ieee.Fits.{down_pos}
use Rattle.std.specs.Float.Ieee.Scale.{finite}
use Rattle.rounding.specs.Distance.{dist, dist-mul, dist_equal, equal_of_dist}
use Rattle.rounding.specs.Integers.{difference_sub, difference_mul, difference_scale, difference_unique, abs_difference, abs_mul}
use Rattle.number.specs.Units.{units_of, units_whole}
use Rattle.rounding.specs.Units.{positive_part, negative_part, exact, exact_difference, exact_size, parts_size, positive_product, negative_product, product_size}
use Rattle.rounding.specs.RoundingError.{SignedSize, signed_size, Rounded, rounded}
use Rattle.rounding.specs.FiniteOperands.{not_finite}

-- The exact product is A - B in units of 2 ^ -(2 low), the computed one p - n units; L is 2 ^ low, the units in 1, and U is 2 ^ prec.
pub record MultiplicationError (A B p n L U : ℕ) : Type 0 where
  pub error : dist (p * L + B) (n * L + A) * 2 * U ≤ (A + B) * 2 + L * U
  pub error_normal : U ≤ (p + n) * 2 → dist (p * L + B) (n * L + A) * U ≤ (p + n) * L
  pub representable : (q j : ℕ) → q < U → A + B ≡ q * 2 ^ j * L → p * L + B ≡ n * L + A

-- ---- a product of z with the sign s, rounded to r units
aligned : (s : Bool) (r z A B L : ℕ) → A + cond s z 0 ≡ B + cond s 0 z → A + B ≡ z
    → (dist (cond s 0 r * L + B) (cond s r 0 * L + A) ≡ dist (r * L) z) × (cond s 0 r + cond s r 0 ≡ r)
aligned true r z A B L e g = (omega arith, omega arith)
aligned false r z A B L e g = (omega arith, omega arith)

module _ (f : Format) (s : Bool) (num c z A B : ℕ) (C : 0 < c) (e : num * 2 ^ low f * 2 ^ low f ≡ z * c) (g : A + cond s z 0 ≡ B + cond s 0 z)
    (h : A + B ≡ z) (t : T (finite (round f s num c))) where
  R : Rounded f s num c (round f s num c)
  R = rounded f s num c C t

  r : ℕ
  r = R.r

  -- the error in units of 2 ^ -(2 low), times c
  rescaled : dist (r * 2 ^ low f) z * c ≡ dist (r * c) (num * 2 ^ low f) * 2 ^ low f
  rescaled =
      sym (dist-mul (r * 2 ^ low f) z c)
      ∙ ap₂ (λ (x y : ℕ). dist x y) (mul_right_comm r (2 ^ low f) c) (sym e)
      ∙ dist-mul (r * c) (num * 2 ^ low f) (2 ^ low f)

  cancel_error : (D0 D1 L U : ℕ) → D1 * c ≡ D0 * L → num * L * L ≡ z * c → D0 * 2 * U ≤ num * L * 2 + c * U → D1 * 2 * U ≤ z * 2 + L * U
  cancel_error D0 D1 L U e g h =
      let k : D1 * c * (2 * U) ≡ D0 * L * (2 * U) = ap (λ (x : ℕ). x * (2 * U)) e in
      let i : D0 * 2 * U * L ≤ (num * L * 2 + c * U) * L = mul-le-mul_right L h in
      let l : D1 * 2 * U * c ≤ (z * 2 + L * U) * c = omega arith in
      le_of_mul-le-mul_right l C

  cancel_normal : (D0 D1 L U : ℕ) → D1 * c ≡ D0 * L → D0 * U ≤ r * c → D1 * U ≤ r * L
  cancel_normal D0 D1 L U e h =
      let k : D1 * c * U ≡ D0 * L * U = ap (λ (x : ℕ). x * U) e in
      let i : D0 * U * L ≤ r * c * L = mul-le-mul_right L h in
      let l : D1 * U * c ≤ r * L * c = omega arith in
      le_of_mul-le-mul_right l C

  cancel_exact : (q L : ℕ) → 0 < L → num * L * L ≡ z * c → z ≡ q * L → num * L ≡ q * c
  cancel_exact q L l e k = eq_of_mul-eq-mul_right L l (num * L) (q * c) (e ∙ ap (λ (x : ℕ). x * c) k ∙ mul_right_comm q L c)

  rounded_product : MultiplicationError A B (positive_part f (round f s num c)) (negative_part f (round f s num c)) (2 ^ low f) (2 ^ prec f)
  unfolding r
  rounded_product =
      let d = aligned s r z A B (2 ^ low f) g h in
      rw (R.sized.positive, R.sized.negative)
      (record {
        error = rw (h, d.0) (cancel_error (dist (r * c) (num * 2 ^ low f)) (dist (r * 2 ^ low f) z) (2 ^ low f) (2 ^ prec f) rescaled e R.error);
        error_normal =
            rw (d.0, d.1)
            (λ (n : 2 ^ prec f ≤ r * 2). cancel_normal (dist (r * c) (num * 2 ^ low f)) (dist (r * 2 ^ low f) z) (2 ^ low f) (2 ^ prec f) rescaled
            (R.error_normal n));
        representable = λ q j l k. equal_of_dist (cond s 0 r * 2 ^ low f + B) (cond s r 0 * 2 ^ low f + A)
            (d.0 ∙ dist_equal (r * 2 ^ low f) z (same (q * 2 ^ j)
            (R.representable q j l (cancel_exact (q * 2 ^ j) (2 ^ low f) (pow_pos (low f)) e (sym h ∙ k))) (sym h ∙ k)));
      })
    where
      same : (q : ℕ) → r * c ≡ num * 2 ^ low f → z ≡ q * 2 ^ low f → r * 2 ^ low f ≡ z
      same q x k = eq_of_mul-eq-mul_right c C (r * 2 ^ low f) z (mul_right_comm r (2 ^ low f) c ∙ ap (λ (y : ℕ). y * 2 ^ low f) x ∙ e)

-- ---- the cases of signs
signs : (s t : Bool) (zx zy : ℕ) → cond s 0 zx * cond t 0 zy + cond s zx 0 * cond t zy 0 + cond (unlike s t) (zx * zy) 0
    ≡ cond s 0 zx * cond t zy 0 + cond s zx 0 * cond t 0 zy + cond (unlike s t) 0 (zx * zy)
signs true true zx zy = omega arith
signs true false zx zy = omega arith
signs false true zx zy = omega arith
signs false false zx zy = omega arith

multiply : (zx zy m n de dd L : ℕ) → zx * de ≡ m * L → zy * dd ≡ n * L → m * n * L * L ≡ zx * zy * (de * dd)
multiply zx zy m n de dd L p q = let k : zx * de * (zy * dd) ≡ m * L * (n * L) = ap₂ (λ (x y : ℕ). x * y) p q in omega arith

-- ---- the error of fl(x y), over the sign parts
pub mul_parts : (f : Format) (x y : Float) → T (fits f x) → T (fits f y) → T (finite (mul f x y))
    → MultiplicationError (positive_product f x y) (negative_product f x y) (positive_part f (mul f x y)) (negative_part f (mul f x y)) (2 ^ low f) (2 ^ prec f)
unfolding mul
mul_parts f nan y hx hy k = absurd k
mul_parts f (inf s) nan hx hy k = absurd k
mul_parts f (inf s) (inf t) hx hy k = absurd k
mul_parts f (inf s) (fin t n d) hx hy k = absurd (not_finite (eqb n 0) (unlike s t) k)
mul_parts f (fin s m e) nan hx hy k = absurd k
mul_parts f (fin s m e) (inf t) hx hy k = absurd (not_finite (eqb m 0) (unlike s t) k)
mul_parts f (fin s m e) (fin t n d) hx hy k =
    let x = fin s m e in
    let y = fin t n d in
    let i : SignedSize f x s (units_of f x) = signed_size f s m e in
    let j : SignedSize f y t (units_of f y) = signed_size f t n d in
    rounded_product f (unlike s t) (m * up e * (n * up d)) (down e * down d) (units_of f x * units_of f y) (positive_product f x y)
    (negative_product f x y) (mul-pos (down_pos e) (down_pos d))
    (multiply (units_of f x) (units_of f y) (m * up e) (n * up d) (down e) (down d) (2 ^ low f) (units_whole f s m e hx) (units_whole f t n d hy))
    (rw (i.positive, i.negative, j.positive, j.negative) (signs s t (units_of f x) (units_of f y))) (product_size f x y) k

-- ---- over the integers
module _ (f : Format) (x y : Float) (hx : T (fits f x)) (hy : T (fits f y)) (k : T (finite (mul f x y))) where
  error_difference : nat_abs (exact f (mul f x y) *ℤ pos (2 ^ low f) -ℤ exact f x *ℤ exact f y)
      ≡ dist (positive_part f (mul f x y) * 2 ^ low f + negative_product f x y) (negative_part f (mul f x y) * 2 ^ low f + positive_product f x y)
  error_difference =
      abs_difference (difference_sub (difference_scale (exact_difference f (mul f x y)) (2 ^ low f))
      (difference_mul (exact_difference f x) (exact_difference f y)))

  product_is : positive_product f x y + negative_product f x y ≡ nat_abs (exact f x *ℤ exact f y)
  product_is = product_size f x y ∙ sym (abs_mul (exact f x) (exact f y) ∙ ap₂ (λ (a b : ℕ). a * b) (exact_size f x) (exact_size f y))

  -- |fl(x y) - x y| ≤ 2 ^ -prec |x y| + 2 ^ -(low + 1)
  pub mul_error : nat_abs (exact f (mul f x y) *ℤ pos (2 ^ low f) -ℤ exact f x *ℤ exact f y) * 2 * 2 ^ prec f
      ≤ nat_abs (exact f x *ℤ exact f y) * 2 + 2 ^ low f * 2 ^ prec f
  mul_error =
      subst₂ (λ (a b : ℕ). a * 2 * 2 ^ prec f ≤ b * 2 + 2 ^ low f * 2 ^ prec f) (sym error_difference) product_is (mul_parts f x y hx hy k).error

  -- |fl(x y) - x y| ≤ 2 ^ -prec |fl(x y)| where fl(x y) is normal: of at least 2 ^ (prec - 1) units (2 ^ -1022 in binary64)
  pub mul_error_normal : 2 ^ prec f ≤ units_of f (mul f x y) * 2
      → nat_abs (exact f (mul f x y) *ℤ pos (2 ^ low f) -ℤ exact f x *ℤ exact f y) * 2 ^ prec f ≤ units_of f (mul f x y) * 2 ^ low f
  mul_error_normal =
      subst₂ (λ (a b : ℕ). 2 ^ prec f ≤ b * 2 → a * 2 ^ prec f ≤ b * 2 ^ low f) (sym error_difference) (parts_size f (mul f x y))
      (mul_parts f x y hx hy k).error_normal

  -- fl(x y) = x y where |x y| is q * 2 ^ j units with q of at most prec digits
  pub mul-exact : (q j : ℕ) → q < 2 ^ prec f → nat_abs (exact f x *ℤ exact f y) ≡ q * 2 ^ j * 2 ^ low f
      → exact f (mul f x y) *ℤ pos (2 ^ low f) ≡ exact f x *ℤ exact f y
  mul-exact q j l e =
      difference_unique (difference_scale (exact_difference f (mul f x y)) (2 ^ low f)) (difference_mul (exact_difference f x) (exact_difference f y))
      ((mul_parts f x y hx hy k).representable q j l (product_is ∙ e))
