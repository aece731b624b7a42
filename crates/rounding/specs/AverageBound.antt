-- The distance of a computed basin average from the exact sum of its terms, over the terms' positive and negative parts, in any format. Assumes nothing.
use Rattle.std.specs.Prelude.{◌≡◌, ℕ, zero, suc, ◌+◌, ◌*◌, ◌^◌, ◌≤◌, ◌<◌, T, Float}
use Rattle.std.proofs.Math.Path.{refl}
use Rattle.std.proofs.Common.{ap, mul-le-mul_right, arith}
use Rattle.std.proofs.Math.Nat.{mul-le-mul_left, le_of_mul-le-mul_left}
use Rattle.std.specs.Float.{Format}
use Rattle.std.specs.Float.Ieee.{prec, low, fits, add, mul, div}
use Rattle.std.specs.Float.Ieee.Scale.{finite}
use Rattle.rounding.specs.Distance.{dist}
use Rattle.rounding.specs.Units.{positive_part, negative_part, positive_product, negative_product}
use Rattle.rounding.specs.Sums.{zero⁺, running_sum, triangle_sum, triangle_total}
use Rattle.rounding.specs.FiniteOperands.{add_finite_left, add_finite_right, mul_finite_right, div_finite_left}
use Rattle.rounding.specs.Approximation.{Approximates, guard, approximates_add, weaken, restated}
use Rattle.rounding.specs.ApproximateProducts.{approximates_product, approximates_mul_left, approximates_div}
use Rattle.rounding.specs.RunningSums.{count, approximates_triangle}

-- from the distance D with its budget of T + 4 roundings to the margin: K parts of 2 ^ -prec, and M
to_margin : (D A T K M g U L F y : ℕ) → 0 < g → (T + 4) * (g + 1) ≤ K * g → K ≤ U → 3 * T * F + L ≤ M → y ≤ L
    → D * (2 * (g * U)) ≤ (3 * (g + 1) + T * (g + 1) + (g + 1)) * (A * 2 + T * (3 * F * L)) + g * U * (T * (3 * F * L) + L * y)
    → D * U ≤ K * A + M * L * U
to_margin D A T K M g U L F y G a b m c h = finish (T * (3 * F * L)) refl h
  where
    -- the budget in parts of 2 ^ -prec
    whole : (H : ℕ) → D * (2 * (g * U)) ≤ (3 * (g + 1) + T * (g + 1) + (g + 1)) * (A * 2 + H) + g * U * (H + L * y)
        → D * (2 * U) ≤ K * (A * 2 + H) + U * (H + L * y)
    whole H h = le_of_mul-le-mul_left (collect (A * 2 + H) (H + L * y) h (mul-le-mul_right (A * 2 + H) a)) G
      where
        collect : (w z : ℕ) → D * (2 * (g * U)) ≤ (3 * (g + 1) + T * (g + 1) + (g + 1)) * w + g * U * z → (T + 4) * (g + 1) * w ≤ K * g * w
            → g * (D * (2 * U)) ≤ g * (K * w + U * z)
        collect w z h i = omega arith

    halve : (H : ℕ) → D * (2 * U) ≤ K * (A * 2 + H) + U * (H + L * y) → K * H ≤ U * H → U * L * y ≤ U * L * L → U * H + U * L * L ≤ M * L * U
        → D * U ≤ K * A + M * L * U
    halve H k l n o = omega arith

    finish : (H : ℕ) → H ≡ T * (3 * F * L) → D * (2 * (g * U)) ≤ (3 * (g + 1) + T * (g + 1) + (g + 1)) * (A * 2 + H) + g * U * (H + L * y)
        → D * U ≤ K * A + M * L * U
    finish H e h =
        halve H (whole H h) (mul-le-mul_right H b) (mul-le-mul_left (U * L) c)
        (omega (arith, mul-le-mul_right (L * U) m, ap (λ (x : ℕ). U * x) e))

module _ (f : Format) (c s c' s' : ℕ → ℕ → Float) (factor : ℕ → Float) where
  -- computed: c c' + s s', that times the factor, and the sum of those divided by the kernel's first number
  abbrev pub inner : ℕ → ℕ → Float
  inner n m = add f (mul f (c n m) (c' n m)) (mul f (s n m) (s' n m))

  abbrev pub summand : ℕ → ℕ → Float
  summand n m = mul f (factor n) (inner n m)

  abbrev pub quotient : ℕ → Float
  quotient N = div f (triangle_sum f summand (suc N)) (c' 0 0)

  -- the positive and the negative part of a term factor x y, and of both terms of a pair, in units of 2 ^ -(3 low)
  abbrev pub positive_term : (x y : ℕ → ℕ → Float) → ℕ → ℕ → ℕ
  positive_term x y n m = positive_product f (x n m) (y n m) * positive_part f (factor n) + negative_product f (x n m) (y n m) * negative_part f (factor n)

  abbrev pub negative_term : (x y : ℕ → ℕ → Float) → ℕ → ℕ → ℕ
  negative_term x y n m = positive_product f (x n m) (y n m) * negative_part f (factor n) + negative_product f (x n m) (y n m) * positive_part f (factor n)

  unfoldable pub positive_pair : ℕ → ℕ → ℕ
  positive_pair n m = positive_term c c' n m + positive_term s s' n m

  unfoldable pub negative_pair : ℕ → ℕ → ℕ
  negative_pair n m = negative_term c c' n m + negative_term s s' n m

  module _ (fc : (n m : ℕ) → T (fits f (c n m))) (fs : (n m : ℕ) → T (fits f (s n m))) (fc' : (n m : ℕ) → T (fits f (c' n m)))
      (fs' : (n m : ℕ) → T (fits f (s' n m))) (ff : (n : ℕ) → T (fits f (factor n)))
      (big : 4 * (guard + 1) ≤ 2 ^ prec f) where
    inner_approximates : (n m : ℕ) → T (finite (inner n m))
        → Approximates f (2 ^ low f) (inner n m) (positive_product f (c n m) (c' n m) + positive_product f (s n m) (s' n m))
        (negative_product f (c n m) (c' n m) + negative_product f (s n m) (s' n m)) (2 * (guard + 1)) (2 * 2 ^ low f)
    inner_approximates n m t =
        let x = mul f (c n m) (c' n m) in
        let y = mul f (s n m) (s' n m) in
        restated
        (approximates_add (omega arith) (approximates_product (c n m) (c' n m) (fc n m) (fc' n m) (add_finite_left f x y t))
        (approximates_product (s n m) (s' n m) (fs n m) (fs' n m) (add_finite_right f x y t)) t)
        refl refl (omega arith) (omega arith)

    -- F bounds 1 and the factor's size, in units
    summand_approximates : (F : ℕ) → 2 ^ low f ≤ F → (n m : ℕ) → positive_part f (factor n) + negative_part f (factor n) ≤ F → T (finite (summand n m))
        → Approximates f (2 ^ low f * 2 ^ low f) (summand n m) (positive_pair n m) (negative_pair n m) (3 * (guard + 1)) (3 * F * 2 ^ low f)
    unfolding positive_pair negative_pair
    summand_approximates F one n m most t =
        restated
        (weaken (3 * (guard + 1)) (3 * F * 2 ^ low f) (omega arith) (halves (2 ^ low f) (positive_part f (factor n) + negative_part f (factor n)) one most)
        (approximates_mul_left (factor n) (omega arith) (ff n) (inner_approximates n m (mul_finite_right f (factor n) (inner n m) t)) t))
        (distribute (positive_product f (c n m) (c' n m)) (positive_product f (s n m) (s' n m)) (negative_product f (c n m) (c' n m))
        (negative_product f (s n m) (s' n m)) (positive_part f (factor n)) (negative_part f (factor n)))
        (distribute (positive_product f (c n m) (c' n m)) (positive_product f (s n m) (s' n m)) (negative_product f (c n m) (c' n m))
        (negative_product f (s n m) (s' n m)) (negative_part f (factor n)) (positive_part f (factor n)))
        refl refl
      where
        halves : (L y : ℕ) → L ≤ F → y ≤ F → 2 * L * y + L * L ≤ 3 * F * L
        halves L y a b = omega (arith, mul-le-mul_left L a, mul-le-mul_left L b)

        distribute : (a b c d x y : ℕ) → (a + b) * x + (c + d) * y ≡ a * x + c * y + (b * x + d * y)
        distribute a b c d x y = omega arith

    -- T = count (suc N) pairs: T additions, 3 roundings in a term and the division
    pub average-bound : (N F K M : ℕ) → 2 ^ low f ≤ F → ((n : ℕ) → n < suc N → positive_part f (factor n) + negative_part f (factor n) ≤ F)
        → positive_part f (c' 0 0) + negative_part f (c' 0 0) ≤ 2 ^ low f → T (finite (c' 0 0)) → T (finite (quotient N))
        → (count (suc N) + 4) * (guard + 1) ≤ 2 ^ prec f → 0 < guard → (count (suc N) + 4) * (guard + 1) ≤ K * guard → K ≤ 2 ^ prec f
        → 3 * count (suc N) * F + 2 ^ low f ≤ M
        → dist (positive_product f (quotient N) (c' 0 0) * 2 ^ low f + triangle_total negative_pair (suc N))
        (negative_product f (quotient N) (c' 0 0) * 2 ^ low f + triangle_total positive_pair (suc N)) * 2 ^ prec f
        ≤ K * (triangle_total positive_pair (suc N) + triangle_total negative_pair (suc N)) + M * 2 ^ low f * 2 ^ prec f
    average-bound N F K M one most small a t room g k u m =
        to_margin D (triangle_total positive_pair (suc N) + triangle_total negative_pair (suc N)) (count (suc N)) K M guard (2 ^ prec f) (2 ^ low f) F
        (positive_part f (c' 0 0) + negative_part f (c' 0 0)) g k u m small
        (approximates_div (2 ^ low f) (c' 0 0) (omega arith)
        (approximates_triangle summand positive_pair negative_pair (suc N) (λ n i l j. summand_approximates F one n i (most n l)) (omega arith)
        (div_finite_left f (triangle_sum f summand (suc N)) (c' 0 0) t))
        (fc' 0 0) a t)
      where
        D : ℕ
        D =
            dist (positive_product f (quotient N) (c' 0 0) * 2 ^ low f + triangle_total negative_pair (suc N))
            (negative_product f (quotient N) (c' 0 0) * 2 ^ low f + triangle_total positive_pair (suc N))

-- a finite sum over a triangle has a finite first term
pub first_finite : (f : Format) (t : ℕ → ℕ → Float) (n : ℕ) → T (finite (triangle_sum f t (suc n))) → T (finite (t 0 0))
unfolding triangle_sum running_sum
first_finite f t zero h = add_finite_right f zero⁺ (t 0 0) h
first_finite f t (suc n) h = first_finite f t n (back (suc (suc n)) h)
  where
    back : (m : ℕ) → T (finite (running_sum f (t (suc n)) m (triangle_sum f t (suc n)))) → T (finite (triangle_sum f t (suc n)))
    back zero k = k
    back (suc m) k = back m (add_finite_left f (running_sum f (t (suc n)) m (triangle_sum f t (suc n))) (t (suc n) m) k)
