-- Products and quotients of an approximation and an exact value. Assumes nothing.
use Rattle.std.specs.Prelude.{◌≡◌, refl, ℕ, ◌+◌, ◌*◌, ◌^◌, ◌≤◌, T, Float}
use Rattle.std.proofs.Common.{sym, subst, mul-le-mul_right, arith}
use Rattle.std.specs.Float.{Format}
use Rattle.std.specs.Float.Ieee.{prec, low, fits, mul, div}
use Rattle.std.specs.Float.Ieee.Fits.{mul-fits}
use Rattle.std.specs.Float.Ieee.Scale.{finite}
use Rattle.rounding.specs.Distance.{dist, dist-left, dist_right, dist_times_le}
use Rattle.rounding.specs.Units.{positive_part, negative_part, positive_product, negative_product}
use Rattle.rounding.specs.FiniteOperands.{mul_finite_left}
use Rattle.rounding.specs.Multiplication.{MultiplicationError, mul_parts}
use Rattle.rounding.specs.Division.{div_parts}
use Rattle.rounding.specs.Approximation.{Approximates, guard, approximates_exact, computed_size, restated, rescaled}

-- ---- a product with an exact value y
product_upper : (pv nv py ny pr nr s L P Q E R : ℕ) → pr * L + (pv * ny + nv * py) ≤ nr * L + (pv * py + nv * ny) + R → pv * s + Q ≤ nv * s + P + E
    → nv * s + P ≤ pv * s + Q + E
    → pr * (s * L) + (P * ny + Q * py) ≤ nr * (s * L) + (P * py + Q * ny) + (E * (py + ny) + R * s)
product_upper pv nv py ny pr nr s L P Q E R h x y =
    let i : (pr * L + (pv * ny + nv * py)) * s ≤ (nr * L + (pv * py + nv * ny) + R) * s = mul-le-mul_right s h in
    let j : (pv * s + Q) * py ≤ (nv * s + P + E) * py = mul-le-mul_right py x in
    let k : (nv * s + P) * ny ≤ (pv * s + Q + E) * ny = mul-le-mul_right ny y in
    omega arith

product-lower : (pv nv py ny pr nr s L P Q E R : ℕ) → nr * L + (pv * py + nv * ny) ≤ pr * L + (pv * ny + nv * py) + R → pv * s + Q ≤ nv * s + P + E
    → nv * s + P ≤ pv * s + Q + E
    → nr * (s * L) + (P * py + Q * ny) ≤ pr * (s * L) + (P * ny + Q * py) + (E * (py + ny) + R * s)
product-lower pv nv py ny pr nr s L P Q E R h x y =
    let i : (nr * L + (pv * py + nv * ny)) * s ≤ (pr * L + (pv * ny + nv * py) + R) * s = mul-le-mul_right s h in
    let j : (pv * s + Q) * ny ≤ (nv * s + P + E) * ny = mul-le-mul_right ny x in
    let k : (nv * s + P) * py ≤ (pv * s + Q + E) * py = mul-le-mul_right py y in
    omega arith

-- its own rounding costs D relative parts and l halves
product-bound : (y A H k D x E r l : ℕ) → E * (2 * x) ≤ k * (A * 2 + H) + x * H → r * (2 * x) ≤ D * (A * 2 + H) * y + x * l
    → (E * y + r) * (2 * x) ≤ (k + D) * (A * y * 2 + (H * y + l)) + x * (H * y + l)
product-bound y A H k D x E r l c d = let j : E * (2 * x) * y ≤ (k * (A * 2 + H) + x * H) * y = mul-le-mul_right y c in omega arith

sizes_multiply : (P Q a b : ℕ) → (P + Q) * (a + b) ≡ P * a + Q * b + (P * b + Q * a)
sizes_multiply P Q a b = omega arith

-- w stands for v y, with the rounding error R
pub approximates_times : {f : Format} {s : ℕ} {v : Float} (w y : Float) {P Q k H : ℕ} (D l R : ℕ) → Approximates f s v P Q k H
    → R ≡ dist (positive_part f w * 2 ^ low f + negative_product f v y) (negative_part f w * 2 ^ low f + positive_product f v y)
    → R * s * (2 * (guard * 2 ^ prec f)) ≤ D * ((P + Q) * 2 + H) * (positive_part f y + negative_part f y) + guard * 2 ^ prec f * l
    → T (fits f w) → T (finite w)
    → Approximates f (s * 2 ^ low f) w (P * positive_part f y + Q * negative_part f y) (P * negative_part f y + Q * positive_part f y) (k + D)
    (H * (positive_part f y + negative_part f y) + l)
approximates_times {f} {s} {v} w y {P} {Q} {k} {H} D l R n e r a b =
    let L = 2 ^ low f in
    let U = 2 ^ prec f in
    let pv = positive_part f v in
    let nv = negative_part f v in
    let py = positive_part f y in
    let ny = negative_part f y in
    let pw = positive_part f w in
    let nw = negative_part f w in
    let c = pw * L + (pv * ny + nv * py) in
    let d = nw * L + (pv * py + nv * ny) in
    let E = dist (pv * s + Q) (nv * s + P) in
    let H' = H * (py + ny) + l in
    record {
      fits_format = a;
      is_finite = b;
      bound =
          dist_times_le (pw * (s * L) + (P * ny + Q * py)) (nw * (s * L) + (P * py + Q * ny)) (E * (py + ny) + R * s) (2 * (guard * U))
          ((k + D) * ((P * py + Q * ny + (P * ny + Q * py)) * 2 + H') + guard * U * H')
          (product_upper pv nv py ny pw nw s L P Q E R (subst (λ (x : ℕ). c ≤ d + x) (sym e) (dist-left c d))
          (dist-left (pv * s + Q) (nv * s + P)) (dist_right (pv * s + Q) (nv * s + P)))
          (product-lower pv nv py ny pw nw s L P Q E R (subst (λ (x : ℕ). d ≤ c + x) (sym e) (dist_right c d))
          (dist-left (pv * s + Q) (nv * s + P)) (dist_right (pv * s + Q) (nv * s + P)))
          (subst (λ (x : ℕ). (E * (py + ny) + R * s) * (2 * (guard * U)) ≤ (k + D) * (x * 2 + H') + guard * U * H') (sizes_multiply P Q py ny)
          (product-bound (py + ny) (P + Q) H k D (guard * U) E (R * s) l n.bound r));
    }

-- one rounding, and half a unit
rounding_cost : (M y s L g U R B : ℕ) → R * 2 * U ≤ M * y * 2 + L * U → M * s * (2 * g) ≤ (g + 1) * B
    → R * s * (2 * (g * U)) ≤ (g + 1) * B * y + g * U * (s * L)
rounding_cost M y s L g U R B r h =
    let i : R * 2 * U * (s * g) ≤ (M * y * 2 + L * U) * (s * g) = mul-le-mul_right (s * g) r in
    let j : M * s * (2 * g) * y ≤ (g + 1) * B * y = mul-le-mul_right y h in
    omega arith

-- w is computed as v y or as y v
times : {f : Format} {s : ℕ} {v : Float} (w y : Float) {P Q k H : ℕ} → k ≤ 2 ^ prec f → Approximates f s v P Q k H
    → MultiplicationError (positive_product f v y) (negative_product f v y) (positive_part f w) (negative_part f w) (2 ^ low f) (2 ^ prec f)
    → T (fits f w) → T (finite w)
    → Approximates f (s * 2 ^ low f) w (P * positive_part f y + Q * negative_part f y) (P * negative_part f y + Q * positive_part f y) (k + (guard + 1))
    (H * (positive_part f y + negative_part f y) + s * 2 ^ low f)
times {f} {s} {v} w y {P} {Q} {k} {H} h n e a b =
    let R = dist (positive_part f w * 2 ^ low f + negative_product f v y) (negative_part f w * 2 ^ low f + positive_product f v y) in
    approximates_times w y (guard + 1) (s * 2 ^ low f) R n refl
    (rounding_cost (positive_part f v + negative_part f v) (positive_part f y + negative_part f y) s (2 ^ low f) guard (2 ^ prec f) R ((P + Q) * 2 + H)
    (subst (λ (x : ℕ). R * 2 * 2 ^ prec f ≤ x * 2 + 2 ^ low f * 2 ^ prec f)
    (sym (sizes_multiply (positive_part f v) (negative_part f v) (positive_part f y) (negative_part f y))) e.error)
    (computed_size n h)) a b

pub approximates_mul_right : {f : Format} {s : ℕ} {v : Float} (y : Float) {P Q k H : ℕ} → k ≤ 2 ^ prec f → Approximates f s v P Q k H → T (fits f y)
    → T (finite (mul f v y))
    → Approximates f (s * 2 ^ low f) (mul f v y) (P * positive_part f y + Q * negative_part f y) (P * negative_part f y + Q * positive_part f y)
    (k + (guard + 1)) (H * (positive_part f y + negative_part f y) + s * 2 ^ low f)
approximates_mul_right {f} {s} {v} y h n a t = times (mul f v y) y h n (mul_parts f v y n.fits_format a t) (mul-fits f v y) t

pub approximates_mul_left : {f : Format} {s : ℕ} (y : Float) {v : Float} {P Q k H : ℕ} → k ≤ 2 ^ prec f → T (fits f y) → Approximates f s v P Q k H
    → T (finite (mul f y v))
    → Approximates f (s * 2 ^ low f) (mul f y v) (P * positive_part f y + Q * negative_part f y) (P * negative_part f y + Q * positive_part f y)
    (k + (guard + 1)) (H * (positive_part f y + negative_part f y) + s * 2 ^ low f)
approximates_mul_left {f} {s} y {v} h a n t =
    times (mul f y v) y h n
    (rw (
      exchange (positive_part f v) (positive_part f y) (negative_part f v) (negative_part f y),
      exchange' (positive_part f v) (negative_part f y)
          (negative_part f v) (positive_part f y),
    ) (mul_parts f y v a n.fits_format t))
    (mul-fits f y v) t
  where
    exchange : (a b c d : ℕ) → a * b + c * d ≡ b * a + d * c
    exchange a b c d = omega arith

    exchange' : (a b c d : ℕ) → a * b + c * d ≡ d * c + b * a
    exchange' a b c d = omega arith

-- a product of two exact values
pub approximates_product : {f : Format} (x y : Float) → T (fits f x) → T (fits f y) → T (finite (mul f x y))
    → Approximates f (2 ^ low f) (mul f x y) (positive_product f x y) (negative_product f x y) (guard + 1) (2 ^ low f)
approximates_product {f} x y a b t =
    rescaled (restated (approximates_mul_right y (omega arith)
    (restated (approximates_exact 1 a (mul_finite_left f x y t)) (omega arith) (omega arith) refl refl) b t) refl refl (omega arith) (omega arith))
    (omega arith)

-- ---- a quotient by an exact value y. What is set against P - Q is y times the quotient w
quotient_upper : (pv nv py ny pr nr s L P Q E R : ℕ) → pr * py + nr * ny + nv * L ≤ pr * ny + nr * py + pv * L + R → pv * (s * L) + Q ≤ nv * (s * L) + P + E
    → (pr * py + nr * ny) * s + Q ≤ (pr * ny + nr * py) * s + P + (E + R * s)
quotient_upper pv nv py ny pr nr s L P Q E R h x =
    let i : (pr * py + nr * ny + nv * L) * s ≤ (pr * ny + nr * py + pv * L + R) * s = mul-le-mul_right s h in omega arith

quotient-lower : (pv nv py ny pr nr s L P Q E R : ℕ) → pr * ny + nr * py + pv * L ≤ pr * py + nr * ny + nv * L + R → nv * (s * L) + P ≤ pv * (s * L) + Q + E
    → (pr * ny + nr * py) * s + P ≤ (pr * py + nr * ny) * s + Q + (E + R * s)
quotient-lower pv nv py ny pr nr s L P Q E R h x =
    let i : (pr * ny + nr * py + pv * L) * s ≤ (pr * py + nr * ny + nv * L + R) * s = mul-le-mul_right s h in omega arith

quotient-bound : (M y s L A H k g U E R : ℕ) → R * 2 * U ≤ M * L * 2 + y * U → E * (2 * (g * U)) ≤ k * (A * 2 + H) + g * U * H
    → M * (s * L) * (2 * g) ≤ (g + 1) * (A * 2 + H)
    → (E + R * s) * (2 * (g * U)) ≤ (k + (g + 1)) * (A * 2 + H) + g * U * (H + s * y)
quotient-bound M y s L A H k g U E R r c x = let i : R * 2 * U * (s * g) ≤ (M * L * 2 + y * U) * (s * g) = mul-le-mul_right (s * g) r in omega arith

pub approximates_div : {f : Format} (s : ℕ) {v : Float} (y : Float) {P Q k H : ℕ} → k ≤ 2 ^ prec f → Approximates f (s * 2 ^ low f) v P Q k H
    → T (fits f y) → T (finite y) → T (finite (div f v y))
    → dist (positive_product f (div f v y) y * s + Q) (negative_product f (div f v y) y * s + P) * (2 * (guard * 2 ^ prec f))
    ≤ (k + (guard + 1)) * ((P + Q) * 2 + H) + guard * 2 ^ prec f * (H + s * (positive_part f y + negative_part f y))
approximates_div {f} s {v} y {P} {Q} {k} {H} h n a b t =
    let L = 2 ^ low f in
    let pv = positive_part f v in
    let nv = negative_part f v in
    let py = positive_part f y in
    let ny = negative_part f y in
    let pr = positive_part f (div f v y) in
    let nr = negative_part f (div f v y) in
    let c = pr * py + nr * ny + nv * L in
    let d = pr * ny + nr * py + pv * L in
    let E = dist (pv * (s * L) + Q) (nv * (s * L) + P) in
    dist_times_le ((pr * py + nr * ny) * s + Q) ((pr * ny + nr * py) * s + P) (E + dist c d * s) (2 * (guard * 2 ^ prec f))
    ((k + (guard + 1)) * ((P + Q) * 2 + H) + guard * 2 ^ prec f * (H + s * (py + ny)))
    (quotient_upper pv nv py ny pr nr s L P Q E (dist c d) (dist-left c d) (dist-left (pv * (s * L) + Q) (nv * (s * L) + P)))
    (quotient-lower pv nv py ny pr nr s L P Q E (dist c d) (dist_right c d) (dist_right (pv * (s * L) + Q) (nv * (s * L) + P)))
    (quotient-bound (pv + nv) (py + ny) s L (P + Q) H k guard (2 ^ prec f) E (dist c d) (div_parts f v y n.fits_format a b t) n.bound (computed_size n h))
