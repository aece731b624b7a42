-- Products that do not underflow: fl(x y) is normal, or x or y is zero. Their error is relative alone, and an approximation without an
-- absolute part stays one. Assumes nothing.
use Rattle.std.specs.Prelude.{◌≡◌, refl, ◌⊎◌, ℕ, ◌+◌, ◌-◌, ◌*◌, ◌^◌, ◌≤◌, T, Float}
use Rattle.std.proofs.Common.{sym, ap, ap₂, ◌∙◌, subst, inl, inr, le_trans, le_of_eq, mul-le-mul_right, le_of_mul-le-mul_right, arith, pow_pos}
use Rattle.std.specs.Float.{Format}
use Rattle.std.specs.Float.Ieee.{prec, low, fits, mul}
use Rattle.std.specs.Float.Ieee.Fits.{mul-fits}
use Rattle.std.specs.Float.Ieee.Scale.{finite}
use Rattle.rounding.specs.Distance.{dist, dist-left, dist_right, dist_equal}
use Rattle.number.specs.Units.{units_of}
use Rattle.rounding.specs.Units.{positive_part, negative_part, one_sign, parts_size, positive_product, negative_product, product_size}
use Rattle.rounding.specs.Multiplication.{mul_parts}
use Rattle.rounding.specs.Approximation.{Approximates, guard, computed_size}
use Rattle.rounding.specs.ApproximateProducts.{approximates_times}

-- fl(x y) has at least 2 ^ (prec - 1) units (2 ^ -1022 in binary64), or x y is 0
abbrev pub NoUnderflow : Format → Float → Float → Type 0
NoUnderflow f x y = (2 ^ prec f ≤ units_of f (mul f x y) * 2) ⊎ (units_of f x * units_of f y ≡ 0)

-- |fl(x y) - x y| ≤ 2 ^ -prec (|x y| + |fl(x y) - x y|), over the sign parts
pub mul_parts_relative : (f : Format) (x y : Float) → T (fits f x) → T (fits f y) → T (finite (mul f x y)) → NoUnderflow f x y → (R : ℕ)
    → R ≡ dist (positive_part f (mul f x y) * 2 ^ low f + negative_product f x y) (negative_part f (mul f x y) * 2 ^ low f + positive_product f x y)
    → R * 2 ^ prec f ≤ units_of f x * units_of f y + R
mul_parts_relative f x y hx hy k (inl n) R e =
    let w = mul f x y in
    let L = 2 ^ low f in
    let a = positive_part f w * L + negative_product f x y in
    let b = negative_part f w * L + positive_product f x y in
    le_trans
    (subst (λ (r : ℕ). r * 2 ^ prec f ≤ (positive_part f w + negative_part f w) * L) (sym e)
    ((mul_parts f x y hx hy k).error_normal (subst (λ (u : ℕ). 2 ^ prec f ≤ u * 2) (sym (parts_size f w)) n)))
    (subst (λ (z : ℕ). (positive_part f w + negative_part f w) * L ≤ z + R) (product_size f x y)
    (size (positive_part f w) (negative_part f w) L (positive_product f x y) (negative_product f x y) (one_sign f w)
    (subst (λ (r : ℕ). a ≤ b + r) (sym e) (dist-left a b)) (subst (λ (r : ℕ). b ≤ a + r) (sym e) (dist_right a b))))
  where
    size : (p n L A B : ℕ) → (p ≡ 0) ⊎ (n ≡ 0) → p * L + B ≤ n * L + A + R → n * L + A ≤ p * L + B + R → (p + n) * L ≤ A + B + R
    size p n L A B (inl z) h i = omega (arith, ap (λ (x : ℕ). x * L) z)
    size p n L A B (inr z) h i = omega (arith, ap (λ (x : ℕ). x * L) z)
mul_parts_relative f x y hx hy k (inr z) R e =
    none (2 ^ prec f) (units_of f x * units_of f y)
    (e ∙ dist_equal (positive_part f (mul f x y) * 2 ^ low f + negative_product f x y) (negative_part f (mul f x y) * 2 ^ low f + positive_product f x y)
    ((mul_parts f x y hx hy k).representable 0 0 (pow_pos (prec f)) (product_size f x y ∙ z ∙ zero (2 ^ low f))))
  where
    none : (U s : ℕ) → R ≡ 0 → R * U ≤ s + R
    none U s h = le_trans (le_of_eq (ap (λ (r : ℕ). r * U) h)) (omega arith)

    zero : (L : ℕ) → 0 ≡ 0 * 1 * L
    zero L = omega arith

-- one rounding costs guard + 2 parts: 2 ^ -prec of |v y|, and 2 ^ -prec of that once more
relative_cost : (M y s g U R B : ℕ) → R * U ≤ M * y + R → M * s * (2 * g) ≤ (g + 1) * B → g + 2 ≤ U → R * s * (2 * (g * U)) ≤ (g + 2) * B * y
relative_cost M y s g U R B r h u = omega (arith, once, least (R * s * (2 * g)) (B * y) (U - (g + 2)) (omega arith) once)
  where
    once : R * s * (2 * g) * U ≤ (g + 1) * (B * y) + R * s * (2 * g)
    once = omega (arith, mul-le-mul_right (s * (2 * g)) r, mul-le-mul_right y h)

    least : (X Z d : ℕ) → U ≡ g + 2 + d → X * U ≤ (g + 1) * Z + X → X ≤ Z
    least X Z d e k = let l : X * (g + 1) ≤ Z * (g + 1) = omega (arith, ap (λ (x : ℕ). X * x) e) in le_of_mul-le-mul_right l (omega arith)

-- an approximation times an exact value
pub approximates_mul_normal : {f : Format} {s : ℕ} {v : Float} (y : Float) {P Q k H : ℕ} → guard + 2 ≤ 2 ^ prec f → k ≤ 2 ^ prec f
    → Approximates f s v P Q k H → T (fits f y) → T (finite (mul f v y)) → NoUnderflow f v y
    → Approximates f (s * 2 ^ low f) (mul f v y) (P * positive_part f y + Q * negative_part f y) (P * negative_part f y + Q * positive_part f y)
    (k + (guard + 2)) (H * (positive_part f y + negative_part f y) + 0)
approximates_mul_normal {f} {s} {v} y {P} {Q} {k} {H} g h n a t u =
    let R = dist (positive_part f (mul f v y) * 2 ^ low f + negative_product f v y) (negative_part f (mul f v y) * 2 ^ low f + positive_product f v y) in
    approximates_times (mul f v y) y (guard + 2) 0 R n refl
    (le_trans
    (relative_cost (positive_part f v + negative_part f v) (positive_part f y + negative_part f y) s guard (2 ^ prec f) R ((P + Q) * 2 + H)
    (subst (λ (z : ℕ). R * 2 ^ prec f ≤ z + R) (sym (ap₂ (λ (x z : ℕ). x * z) (parts_size f v) (parts_size f y)))
    (mul_parts_relative f v y n.fits_format a t u R refl)) (computed_size n h) g)
    (more ((guard + 2) * ((P + Q) * 2 + H) * (positive_part f y + negative_part f y)) (guard * 2 ^ prec f)))
    (mul-fits f v y) t
  where
    more : (x y : ℕ) → x ≤ x + y * 0
    more x y = omega arith
