-- A product of two approximations that does not underflow, each without an absolute part. Assumes nothing.
use Rattle.std.specs.Prelude.{◌≡◌, refl, ℕ, ◌+◌, ◌-◌, ◌*◌, ◌^◌, ◌≤◌, ◌<◌, T, Float}
use Rattle.std.proofs.Common.{sym, ap, ap₂, subst, le_trans, mul-le-mul_right, mul-le-mul_left, mul-le-mul, le_of_mul-le-mul_right, arith}
use Rattle.std.specs.Float.{Format}
use Rattle.std.specs.Float.Ieee.{prec, low, mul}
use Rattle.std.specs.Float.Ieee.Fits.{mul-fits}
use Rattle.std.specs.Float.Ieee.Scale.{finite}
use Rattle.rounding.specs.Distance.{dist, dist-left, dist_right, dist_times_le}
use Rattle.rounding.specs.Units.{positive_part, negative_part, positive_product, negative_product, parts_size}
use Rattle.rounding.specs.Approximation.{Approximates, guard, computed_size}
use Rattle.rounding.specs.NormalProducts.{NoUnderflow, mul_parts_relative}

-- The factors are a - b and c - d, the computed product x - y; they stand for P - Q and P' - Q', with the distances E and E'.
product_distance : (a b c d x y P Q P' Q' E E' R : ℕ) → x + (a * d + b * c) ≤ y + (a * c + b * d) + R → a + Q ≤ b + P + E → b + P ≤ a + Q + E
    → c + Q' ≤ d + P' + E' → d + P' ≤ c + Q' + E' → x + (P * Q' + Q * P') ≤ y + (P * P' + Q * Q') + (R + (P + Q) * E' + (c + d) * E)
product_distance a b c d x y P Q P' Q' E E' R h e f g k =
    let i : P * (c + Q') ≤ P * (d + P' + E') = mul-le-mul_left P g in
    let j : Q * (d + P') ≤ Q * (c + Q' + E') = mul-le-mul_left Q k in
    let l : (a + Q) * c ≤ (b + P + E) * c = mul-le-mul_right c e in
    let m : (b + P) * d ≤ (a + Q + E) * d = mul-le-mul_right d f in
    omega arith

product_distance' : (a b c d x y P Q P' Q' E E' R : ℕ) → y + (a * c + b * d) ≤ x + (a * d + b * c) + R → a + Q ≤ b + P + E → b + P ≤ a + Q + E
    → c + Q' ≤ d + P' + E' → d + P' ≤ c + Q' + E' → y + (P * P' + Q * Q') ≤ x + (P * Q' + Q * P') + (R + (P + Q) * E' + (c + d) * E)
product_distance' a b c d x y P Q P' Q' E E' R h e f g k =
    let i : Q * (c + Q') ≤ Q * (d + P' + E') = mul-le-mul_left Q g in
    let j : P * (d + P') ≤ P * (c + Q' + E') = mul-le-mul_left P k in
    let l : (a + Q) * d ≤ (b + P + E) * d = mul-le-mul_right d e in
    let m : (b + P) * c ≤ (a + Q + E) * c = mul-le-mul_right c f in
    omega arith

-- the three errors, in parts of 2 ^ -prec / g of the sizes' product A B: k + 4 of the first factor, l of the second, g + 4 of the rounding
first_error : (N E A B k g x : ℕ) → 0 < g → E * (2 * x) ≤ k * (A * 2) → N * g ≤ (g + 1) * B → k ≤ 4 * g → N * E * (2 * x) ≤ (k + 4) * (A * B * 2)
first_error N E A B k g x G e m h = le_of_mul-le-mul_right all G
  where
    one : N * E * (2 * x) * g ≤ N * g * (k * (A * 2))
    one = omega (arith, mul-le-mul_right (N * g) e)

    two : N * g * (k * (A * 2)) ≤ (g + 1) * B * (k * (A * 2))
    two = mul-le-mul_right (k * (A * 2)) m

    three : k * (A * B * 2) ≤ 4 * g * (A * B * 2)
    three = mul-le-mul_right (A * B * 2) h

    all : N * E * (2 * x) * g ≤ (k + 4) * (A * B * 2) * g
    all = le_trans one (le_trans two (omega (arith, three)))

own_error : (M N A B g U R : ℕ) → 1 < g → R * U ≤ M * N + R → M * g ≤ (g + 1) * A → N * g ≤ (g + 1) * B → 2 * g + 8 ≤ U
    → R * (2 * (g * U)) ≤ (g + 4) * (A * B * 2)
own_error M N A B g U R G r m n u = le_of_mul-le-mul_right all (omega arith)
  where
    -- |v w| g g ≤ (g + 1) (g + 1) A B
    sizes : M * N * (g * g) ≤ (g + 1) * (g + 1) * (A * B)
    sizes = omega (arith, mul-le-mul m n)

    once : R * (g * g) * U ≤ (g + 1) * (g + 1) * (A * B) + R * (g * g)
    once = omega (arith, mul-le-mul_right (g * g) r, sizes)

    square : (g : ℕ) → 1 < g → (g + 1) * (g + 1) ≤ g * (2 * g + 7)
    square g h = omega arith

    positive : (g : ℕ) → 0 < (g + 1) * (g + 1)
    positive g = omega arith

    least : (X Z S d : ℕ) → U ≡ 2 * g + 8 + d → S ≤ g * (2 * g + 7) → 0 < S → X * g * U ≤ S * Z + X * g → X ≤ Z
    least X Z S d e f p k =
        let i : X * g * U ≡ X * g * (2 * g + 8 + d) = ap (λ (x : ℕ). X * g * x) e in
        let j : X * S ≤ X * (g * (2 * g + 7)) = mul-le-mul_left X f in
        let l : X * S ≤ Z * S = omega arith in
        le_of_mul-le-mul_right l p

    -- R g ≤ A B
    small : R * g ≤ A * B
    small = least (R * g) (A * B) ((g + 1) * (g + 1)) (U - (2 * g + 8)) (omega arith) (square g G) (positive g) (omega (arith, once))

    all : R * (2 * (g * U)) * g ≤ (g + 4) * (A * B * 2) * g
    all = omega (arith, once, mul-le-mul_right g small, mul-le-mul_right (A * B) G)

all_errors : (R E E' N A B k l g x : ℕ) → R * (2 * x) ≤ (g + 4) * (A * B * 2) → N * E * (2 * x) ≤ (k + 4) * (A * B * 2) → E' * (2 * x) ≤ l * (B * 2)
    → (R + A * E' + N * E) * (2 * x) ≤ (k + l + (g + 8)) * (A * B * 2 + 0) + x * 0
all_errors R E E' N A B k l g x r e f = let i : A * (E' * (2 * x)) ≤ A * (l * (B * 2)) = mul-le-mul_left A f in omega arith

-- The first factor has at most 4 roundings' budget, as a product of two exact values has.
pub approximates_mul_both : {f : Format} {s s' : ℕ} {v w : Float} {P Q P' Q' k l : ℕ} → 1 < guard → 2 * guard + 8 ≤ 2 ^ prec f → k ≤ 4 * guard
    → k ≤ 2 ^ prec f → l ≤ 2 ^ prec f → Approximates f s v P Q k 0 → Approximates f s' w P' Q' l 0 → T (finite (mul f v w)) → NoUnderflow f v w
    → Approximates f (s * s' * 2 ^ low f) (mul f v w) (P * P' + Q * Q') (P * Q' + Q * P') (k + l + (guard + 8)) 0
approximates_mul_both {f} {s} {s'} {v} {w} {P} {Q} {P'} {Q'} {k} {l} g1 g8 few hk hl n m t u =
    let L = 2 ^ low f in
    let U = 2 ^ prec f in
    let pv = positive_part f v in
    let nv = negative_part f v in
    let pw = positive_part f w in
    let nw = negative_part f w in
    let pr = positive_part f (mul f v w) in
    let nr = negative_part f (mul f v w) in
    let E = dist (pv * s + Q) (nv * s + P) in
    let E' = dist (pw * s' + Q') (nw * s' + P') in
    let c = pr * L + negative_product f v w in
    let d = nr * L + positive_product f v w in
    let R = dist c d in
    record {
      fits_format = mul-fits f v w;
      is_finite = t;
      bound =
          dist_times_le (pr * (s * s' * L) + (P * Q' + Q * P')) (nr * (s * s' * L) + (P * P' + Q * Q')) (R * (s * s') + (P + Q) * E' + (pw * s' + nw * s') * E)
          (2 * (guard * U)) ((k + l + (guard + 8)) * ((P * P' + Q * Q' + (P * Q' + Q * P')) * 2 + 0) + guard * U * 0)
          (product_distance (pv * s) (nv * s) (pw * s') (nw * s') (pr * (s * s' * L)) (nr * (s * s' * L)) P Q P' Q' E E' (R * (s * s'))
          (scaled pv nv pw nw pr nr L R (dist-left c d)) (dist-left (pv * s + Q) (nv * s + P)) (dist_right (pv * s + Q) (nv * s + P))
          (dist-left (pw * s' + Q') (nw * s' + P')) (dist_right (pw * s' + Q') (nw * s' + P')))
          (product_distance' (pv * s) (nv * s) (pw * s') (nw * s') (pr * (s * s' * L)) (nr * (s * s' * L)) P Q P' Q' E E' (R * (s * s'))
          (scaled' pv nv pw nw pr nr L R (dist_right c d)) (dist-left (pv * s + Q) (nv * s + P)) (dist_right (pv * s + Q) (nv * s + P))
          (dist-left (pw * s' + Q') (nw * s' + P')) (dist_right (pw * s' + Q') (nw * s' + P')))
          (subst (λ (x : ℕ). (R * (s * s') + (P + Q) * E' + (pw * s' + nw * s') * E) * (2 * (guard * U)) ≤ (k + l + (guard + 8)) * (x * 2 + 0) + guard * U * 0)
          (multiply P Q P' Q')
          (all_errors (R * (s * s')) E E' (pw * s' + nw * s') (P + Q) (P' + Q') k l guard (guard * U)
          (own_error ((pv + nv) * s) ((pw + nw) * s') (P + Q) (P' + Q') guard U (R * (s * s')) g1
          (relative pv nv pw nw R U (subst (λ (z : ℕ). R * U ≤ z + R) (sym (ap₂ (λ (x z : ℕ). x * z) (parts_size f v) (parts_size f w)))
          (mul_parts_relative f v w n.fits_format m.fits_format t u R refl)))
          (half ((pv + nv) * s) (P + Q) (computed_size n hk)) (half ((pw + nw) * s') (P' + Q') (computed_size m hl)) g8)
          (first_error (pw * s' + nw * s') E (P + Q) (P' + Q') k guard (guard * U) (omega arith) (plain E k (P + Q) (guard * U) n.bound)
          (half' (computed_size m hl)) few)
          (plain E' l (P' + Q') (guard * U) m.bound)));
    }
  where
    scaled : (pv nv pw nw pr nr L R : ℕ) → pr * L + (pv * nw + nv * pw) ≤ nr * L + (pv * pw + nv * nw) + R
        → pr * (s * s' * L) + (pv * s * (nw * s') + nv * s * (pw * s')) ≤ nr * (s * s' * L) + (pv * s * (pw * s') + nv * s * (nw * s')) + R * (s * s')
    scaled pv nv pw nw pr nr L R h = omega (arith, mul-le-mul_right (s * s') h)

    scaled' : (pv nv pw nw pr nr L R : ℕ) → nr * L + (pv * pw + nv * nw) ≤ pr * L + (pv * nw + nv * pw) + R
        → nr * (s * s' * L) + (pv * s * (pw * s') + nv * s * (nw * s')) ≤ pr * (s * s' * L) + (pv * s * (nw * s') + nv * s * (pw * s')) + R * (s * s')
    scaled' pv nv pw nw pr nr L R h = omega (arith, mul-le-mul_right (s * s') h)

    relative : (pv nv pw nw R U : ℕ) → R * U ≤ (pv + nv) * (pw + nw) + R → R * (s * s') * U ≤ (pv + nv) * s * ((pw + nw) * s') + R * (s * s')
    relative pv nv pw nw R U h = omega (arith, mul-le-mul_right (s * s') h)

    half : (M A : ℕ) → M * (2 * guard) ≤ (guard + 1) * (A * 2 + 0) → M * guard ≤ (guard + 1) * A
    half M A h = omega arith

    half' : (positive_part f w + negative_part f w) * s' * (2 * guard) ≤ (guard + 1) * ((P' + Q') * 2 + 0)
        → (positive_part f w * s' + negative_part f w * s') * guard ≤ (guard + 1) * (P' + Q')
    half' h = omega arith

    plain : (E k A x : ℕ) → E * (2 * x) ≤ k * (A * 2 + 0) + x * 0 → E * (2 * x) ≤ k * (A * 2)
    plain E k A x h = omega arith

    multiply : (P Q P' Q' : ℕ) → (P + Q) * (P' + Q') ≡ P * P' + Q * Q' + (P * Q' + Q * P')
    multiply P Q P' Q' = omega arith
