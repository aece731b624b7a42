-- A computed value beside the exact number that it stands for, with a bound on the distance that sums, products and quotients carry on.
-- There are no powers of 1 + 2 ^ -prec: relative errors are counted in parts of 2 ^ -prec / guard, and a rounding costs guard + 1 of
-- them. The one in excess pays for the error of the error, as long as all roundings together are at most 1 / guard. Assumes nothing.
use Rattle.std.specs.Prelude.{◌≡◌, ◌⊎◌, ℕ, ◌+◌, ◌-◌, ◌*◌, ◌^◌, ◌≤◌, ◌<◌, ℤ, pos, nat_abs, ◌-ℤ◌, ◌*ℤ◌, T, Float}
use Rattle.std.proofs.Common.{sym, ap, subst, inl, inr, le_trans, mul-le-mul_right, mul-le-mul_left, le_of_mul-le-mul_right, arith, pow_pos}
use Rattle.std.specs.Float.{Format}
use Rattle.std.specs.Float.Ieee.{prec, fits, neg, add}
use Rattle.std.specs.Float.Ieee.Fits.{add-fits, neg-fits}
use Rattle.std.specs.Float.Ieee.Scale.{finite}
use Rattle.rounding.specs.Distance.{dist, dist-left, dist_right, dist_times_le}
use Rattle.rounding.specs.Integers.{Difference, difference_sub, difference_scale, abs_difference}
use Rattle.rounding.specs.Units.{exact, exact_difference, positive_part, negative_part, one_sign, neg_positive, neg_negative}
use Rattle.rounding.specs.FiniteOperands.{neg_finite}
use Rattle.rounding.specs.Addition.{add_parts}

-- how many parts of 2 ^ -prec a relative error is counted in: 2 ^ 24
unfoldable pub guard : ℕ
guard = 16777216

-- v approximates the exact number P - Q, whose terms are P + Q in size, with k relative parts and H halves of a unit:
-- |v - (P - Q)| ≤ k / (guard 2 ^ prec) (P + Q + H / 2) + H / 2. P, Q and H are counted in the s-th part of v's units.
pub record Approximates (f : Format) (s : ℕ) (v : Float) (P Q k H : ℕ) : Type 0 where
  pub fits_format : T (fits f v)
  pub is_finite : T (finite v)
  pub bound : dist (positive_part f v * s + Q) (negative_part f v * s + P) * (2 * (guard * 2 ^ prec f)) ≤ k * ((P + Q) * 2 + H) + guard * 2 ^ prec f * H

-- ---- an exact value, and the same in other words
pub approximates_exact : {f : Format} (s : ℕ) {v : Float} → T (fits f v) → T (finite v) → Approximates f s v (positive_part f v * s) (negative_part f v * s) 0 0
approximates_exact {f} s {v} a b =
    record { fits_format = a; is_finite = b; bound = none (positive_part f v * s) (negative_part f v * s) (2 * (guard * 2 ^ prec f)) (guard * 2 ^ prec f) }
  where
    none : (p n x y : ℕ) → dist (p + n) (n + p) * x ≤ 0 * ((p + n) * 2 + 0) + y * 0
    none p n x y = le_trans (mul-le-mul_right x (zero_distance p n)) (omega arith)
      where
        zero_distance : (p n : ℕ) → dist (p + n) (n + p) ≤ 0
        zero_distance p n = omega arith

pub restated : {f : Format} {s : ℕ} {v : Float} {P Q k H P' Q' k' H' : ℕ} → Approximates f s v P Q k H → P ≡ P' → Q ≡ Q' → k ≡ k' → H ≡ H'
    → Approximates f s v P' Q' k' H'
restated n a b c d = rw (← a, ← b, ← c, ← d) n

pub rescaled : {f : Format} {s s' : ℕ} {v : Float} {P Q k H : ℕ} → Approximates f s v P Q k H → s ≡ s' → Approximates f s' v P Q k H
rescaled n e = rw (← e) n

-- a larger bound
pub weaken : {f : Format} {s : ℕ} {v : Float} {P Q k H : ℕ} (l I : ℕ) → k ≤ l → H ≤ I → Approximates f s v P Q k H → Approximates f s v P Q l I
weaken {f} {s} {v} {P} {Q} {k} {H} l I p q n =
    record { fits_format = n.fits_format; is_finite = n.is_finite; bound = le_trans n.bound (more (P + Q) (guard * 2 ^ prec f)) }
  where
    more : (A x : ℕ) → k * (A * 2 + H) + x * H ≤ l * (A * 2 + I) + x * I
    more A x = omega (arith, mul-le-mul_right (A * 2 + H) p, mul-le-mul_left l q, mul-le-mul_left x q)

-- ---- the size of the computed value: at most 1 + 1 / guard of the terms' sizes and halves
size_le : (a b s P Q E : ℕ) → (a ≡ 0) ⊎ (b ≡ 0) → a * s + Q ≤ b * s + P + E → b * s + P ≤ a * s + Q + E → (a + b) * s ≤ P + Q + E
size_le a b s P Q E (inl z) h k = let z' : a * s ≡ 0 * s = ap (λ (x : ℕ). x * s) z in omega arith
size_le a b s P Q E (inr z) h k = let z' : b * s ≡ 0 * s = ap (λ (x : ℕ). x * s) z in omega arith

size_bound : (M E A H k g U : ℕ) → 0 < U → M ≤ A + E → E * (2 * (g * U)) ≤ k * (A * 2 + H) + g * U * H → k ≤ U → M * (2 * g) ≤ (g + 1) * (A * 2 + H)
size_bound M E A H k g U u a c h =
    let i : M * (2 * (g * U)) ≤ (A + E) * (2 * (g * U)) = mul-le-mul_right (2 * (g * U)) a in
    let j : k * (A * 2 + H) ≤ U * (A * 2 + H) = mul-le-mul_right (A * 2 + H) h in
    let l : M * (2 * g) * U ≤ (g + 1) * (A * 2 + H) * U = omega arith in
    le_of_mul-le-mul_right l u

pub computed_size : {f : Format} {s : ℕ} {v : Float} {P Q k H : ℕ} → Approximates f s v P Q k H → k ≤ 2 ^ prec f
    → (positive_part f v + negative_part f v) * s * (2 * guard) ≤ (guard + 1) * ((P + Q) * 2 + H)
computed_size {f} {s} {v} {P} {Q} {k} {H} n h =
    let a = positive_part f v * s + Q in
    let b = negative_part f v * s + P in
    size_bound ((positive_part f v + negative_part f v) * s) (dist a b) (P + Q) H k guard (2 ^ prec f) (pow_pos (prec f))
    (size_le (positive_part f v) (negative_part f v) s P Q (dist a b) (one_sign f v) (dist-left a b) (dist_right a b)) n.bound h

-- ---- a sum
sum_distance : (pv nv pw nw pr nr s P Q P' Q' E E' R : ℕ) → pr + (nv + nw) ≤ nr + (pv + pw) + R → pv * s + Q ≤ nv * s + P + E → pw * s + Q' ≤ nw * s + P' + E'
    → pr * s + (Q + Q') ≤ nr * s + (P + P') + (E + E' + R * s)
sum_distance pv nv pw nw pr nr s P Q P' Q' E E' R h x y = let i : (pr + (nv + nw)) * s ≤ (nr + (pv + pw) + R) * s = mul-le-mul_right s h in omega arith

sum_bound : (M N s A B H I k g U E E' R : ℕ) → R * U ≤ M + N → E * (2 * (g * U)) ≤ k * (A * 2 + H) + g * U * H
    → E' * (2 * (g * U)) ≤ k * (B * 2 + I) + g * U * I
    → M * s * (2 * g) ≤ (g + 1) * (A * 2 + H) → N * s * (2 * g) ≤ (g + 1) * (B * 2 + I)
    → (E + E' + R * s) * (2 * (g * U)) ≤ (k + (g + 1)) * ((A + B) * 2 + (H + I)) + g * U * (H + I)
sum_bound M N s A B H I k g U E E' R r c d x y = let i : R * U * (s * (2 * g)) ≤ (M + N) * (s * (2 * g)) = mul-le-mul_right (s * (2 * g)) r in omega arith

pub approximates_add : {f : Format} {s : ℕ} {v w : Float} {P Q P' Q' k H I : ℕ} → k ≤ 2 ^ prec f → Approximates f s v P Q k H
    → Approximates f s w P' Q' k I → T (finite (add f v w))
    → Approximates f s (add f v w) (P + P') (Q + Q') (k + (guard + 1)) (H + I)
approximates_add {f} {s} {v} {w} {P} {Q} {P'} {Q'} {k} {H} {I} h n m t =
    let pv = positive_part f v in
    let nv = negative_part f v in
    let pw = positive_part f w in
    let nw = negative_part f w in
    let pr = positive_part f (add f v w) in
    let nr = negative_part f (add f v w) in
    let a = pr + (nv + nw) in
    let b = nr + (pv + pw) in
    let R = dist a b in
    let E = dist (pv * s + Q) (nv * s + P) in
    let E' = dist (pw * s + Q') (nw * s + P') in
    record {
      fits_format = add-fits f v w;
      is_finite = t;
      bound =
          dist_times_le (pr * s + (Q + Q')) (nr * s + (P + P')) (E + E' + R * s) (2 * (guard * 2 ^ prec f))
          ((k + (guard + 1)) * ((P + P' + (Q + Q')) * 2 + (H + I)) + guard * 2 ^ prec f * (H + I))
          (sum_distance pv nv pw nw pr nr s P Q P' Q' E E' R (dist-left a b) (dist-left (pv * s + Q) (nv * s + P)) (dist-left (pw * s + Q') (nw * s + P')))
          (sum_distance nv pv nw pw nr pr s Q P Q' P' E E' R (dist_right a b) (dist_right (pv * s + Q) (nv * s + P)) (dist_right (pw * s + Q') (nw * s + P')))
          (subst (λ (x : ℕ). (E + E' + R * s) * (2 * (guard * 2 ^ prec f)) ≤ (k + (guard + 1)) * (x * 2 + (H + I)) + guard * 2 ^ prec f * (H + I))
          (exchange P Q P' Q')
          (sum_bound (pv + nv) (pw + nw) s (P + Q) (P' + Q') H I k guard (2 ^ prec f) E E' R
          (le_trans (add_parts f v w n.fits_format m.fits_format t).error (sizes pv nv pw nw))
          n.bound m.bound (computed_size n h) (computed_size m h)));
    }
  where
    sizes : (a b c d : ℕ) → dist (a + c) (b + d) ≤ a + b + (c + d)
    sizes a b c d = omega arith

    exchange : (P Q P' Q' : ℕ) → P + Q + (P' + Q') ≡ P + P' + (Q + Q')
    exchange P Q P' Q' = omega arith

-- ---- a change of sign
pub approximates_neg : {f : Format} {s : ℕ} {v : Float} {P Q k H : ℕ} → Approximates f s v P Q k H → Approximates f s (neg v) Q P k H
approximates_neg {f} {s} {v} {P} {Q} {k} {H} n = record {
  fits_format = neg-fits f v n.fits_format;
  is_finite = neg_finite v n.is_finite;
  bound = rw (neg_positive f v, neg_negative f v)
      (le_trans (mul-le-mul_right (2 * (guard * 2 ^ prec f)) (other (positive_part f v * s + Q) (negative_part f v * s + P)))
      (le_trans n.bound (swap (guard * 2 ^ prec f))));
}
  where
    other : (a b : ℕ) → dist b a ≤ dist a b
    other a b = omega arith

    swap : (x : ℕ) → k * ((P + Q) * 2 + H) + x * H ≤ k * ((Q + P) * 2 + H) + x * H
    swap x = omega arith

-- ---- over the integers: the distance of v from an exact z = P - Q
pub approximation_error : {f : Format} {s : ℕ} {v : Float} {P Q k H : ℕ} {z : ℤ} → Approximates f s v P Q k H → Difference z P Q
    → nat_abs (exact f v *ℤ pos s -ℤ z) * (2 * (guard * 2 ^ prec f)) ≤ k * ((P + Q) * 2 + H) + guard * 2 ^ prec f * H
approximation_error {f} {s} {v} {P} {Q} {k} {H} n d =
    subst (λ (x : ℕ). x * (2 * (guard * 2 ^ prec f)) ≤ k * ((P + Q) * 2 + H) + guard * 2 ^ prec f * H)
    (sym (abs_difference (difference_sub (difference_scale (exact_difference f v) s) d))) n.bound
