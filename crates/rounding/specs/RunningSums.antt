-- Running sums of approximations: of a line of terms, and of a triangle of them. Assumes nothing.
use Rattle.std.specs.Prelude.{◌≡◌, T, Float}
use Rattle.std.proofs.Math.Path.{refl}
use Rattle.std.proofs.Common.{ap, ◌∙◌, le_refl, zero-mul, mul-le-mul, arith}
use Prim.Native.Nat.{ℕ, zero, suc, ◌+◌, ◌*◌, ◌/◌, ◌^◌, ◌≤◌, ◌<◌}
use Rattle.std.specs.Float.{Format}
use Rattle.std.specs.Float.Ieee.{prec, low, fits}
use Rattle.std.specs.Float.Ieee.Scale.{finite}
use Rattle.number.specs.Units.{units_of}
use Rattle.rounding.specs.Units.{positive_part, negative_part}
use Rattle.rounding.specs.FiniteOperands.{add_finite_left, add_finite_right}
use Rattle.rounding.specs.Approximation.{Approximates, guard, approximates_exact, approximates_add, weaken, restated}
use Rattle.rounding.specs.Sums.{zero⁺, running_sum, triangle_sum, line_total, triangle_total}

-- ---- how many pairs the degrees below n have: n (n + 1) / 2
unfoldable pub count : ℕ → ℕ
count zero = 0
count (suc n) = count n + suc n

pub count_is : (n : ℕ) → 2 * count n ≡ n * (n + 1)
unfolding count
count_is zero = refl
count_is (suc n) = omega (arith, count_is n)

pub count_le : (n M : ℕ) → n ≤ M → 2 * count n ≤ M * (M + 1)
count_le n M h = omega (arith, count_is n, mul-le-mul h (more h))
  where
    more : n ≤ M → n + 1 ≤ M + 1
    more h = omega arith

-- ---- +0.0 is exact
zero_fits : (f : Format) → T (fits f zero⁺)
unfolding fits
zero_fits f = tt

zero_positive : (f : Format) → positive_part f zero⁺ ≡ 0
unfolding positive_part units_of
zero_positive f = none (2 ^ low f)
  where
    none : (l : ℕ) → 0 * 1 * l / 1 ≡ 0
    none l = omega arith

zero_negative : (f : Format) → negative_part f zero⁺ ≡ 0
unfolding negative_part
zero_negative f = refl

pub approximates_zero : {f : Format} (s : ℕ) → Approximates f s zero⁺ 0 0 0 0
approximates_zero {f} s =
    restated (approximates_exact s (zero_fits f) tt) (ap (λ (x : ℕ). x * s) (zero_positive f) ∙ zero-mul s)
    (ap (λ (x : ℕ). x * s) (zero_negative f) ∙ zero-mul s) refl refl

pub later : {i m : ℕ} → i < m → i < suc m
later h = omega arith

-- ---- a line: m terms after a sum that has cost j additions already
module _ {f : Format} {s k H : ℕ} (t : ℕ → Float) (p q : ℕ → ℕ) where
  pub approximates_line : (m : ℕ) (from : Float) {P Q I : ℕ} (j : ℕ) → ((i : ℕ) → i < m → T (finite (t i)) → Approximates f s (t i) (p i) (q i) k H)
      → k + (j + m) * (guard + 1) ≤ 2 ^ prec f
      → (T (finite from) → Approximates f s from P Q (k + j * (guard + 1)) I) → T (finite (running_sum f t m from))
      → Approximates f s (running_sum f t m from) (P + line_total p m) (Q + line_total q m) (k + (j + m) * (guard + 1)) (I + m * H)
  unfolding running_sum line_total
  approximates_line zero from j each h a b = restated (a b) (omega arith) (omega arith) (omega arith) (omega arith)
  approximates_line (suc m) from {P} {Q} {I} j each h a b =
      restated
      (approximates_add (omega arith) (approximates_line m from j (λ i l. each i (later l)) (omega arith) a (add_finite_left f (running_sum f t m from) (t m) b))
      (weaken (k + (j + m) * (guard + 1)) H (omega arith) (le_refl H) (each m (le_refl (suc m)) (add_finite_right f (running_sum f t m from) (t m) b))) b)
      (omega arith) (omega arith) (omega arith) (omega arith)

-- ---- a triangle
module _ {f : Format} {s k H : ℕ} (t : ℕ → ℕ → Float) (p q : ℕ → ℕ → ℕ) where
  pub approximates_triangle : (n : ℕ) → ((i m : ℕ) → i < n → m < suc i → T (finite (t i m)) → Approximates f s (t i m) (p i m) (q i m) k H)
      → k + count n * (guard + 1) ≤ 2 ^ prec f
      → T (finite (triangle_sum f t n)) → Approximates f s (triangle_sum f t n) (triangle_total p n) (triangle_total q n) (k + count n * (guard + 1)) (count n * H)
  unfolding triangle_sum triangle_total count
  approximates_triangle zero each h b = weaken (k + 0 * (guard + 1)) (0 * H) (omega arith) (omega arith) (approximates_zero s)
  approximates_triangle (suc n) each h b =
      restated
      (approximates_line (t n) (p n) (q n) (suc n) (triangle_sum f t n) (count n) (λ m l. each n m (le_refl (suc n)) l) h
      (approximates_triangle n (λ i m l. each i m (later l)) (omega arith)) b)
      refl refl refl (omega arith)
