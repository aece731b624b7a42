-- The distance of a computed grid value from the exact sum of its terms, over the terms' positive and negative parts, in any format. Assumes nothing.
use Rattle.std.specs.Prelude.{◌≡◌, T, Float}
use Rattle.std.proofs.Math.Path.{refl}
use Rattle.std.proofs.Common.{ap, ◌∙◌, le_refl, mul-le-mul_right}
use Prim.Native.Nat.{ℕ, suc, ◌+◌, ◌*◌, ◌^◌, ◌≤◌, ◌<◌}
use Rattle.std.proofs.Math.Nat.{mul-le-mul_left, le_of_mul-le-mul_left}
use native.Mathlib.Omega.{arith}
use Rattle.std.specs.Float.{Format}
use Rattle.std.specs.Float.Ieee.{prec, low, fits, add, mul}
use Rattle.std.specs.Float.Ieee.Scale.{finite}
use Rattle.rounding.specs.Distance.{dist}
use Rattle.rounding.specs.Units.{positive_part, negative_part, positive_product, negative_product}
use Rattle.rounding.specs.Sums.{zero⁺, running_sum, column_sum, line_total, triangle_total}
use Rattle.rounding.specs.FiniteOperands.{add_finite_left, add_finite_right, mul_finite_left}
use Rattle.rounding.specs.Approximation.{Approximates, guard, approximates_add, weaken, restated}
use Rattle.rounding.specs.ApproximateProducts.{approximates_product, approximates_mul_right}
use Rattle.rounding.specs.RunningSums.{approximates_zero, approximates_line}
use Rattle.rounding.specs.ColumnSums.{column_total, approximates_column, line_equal, columns_triangle, combined, columns_combined}

-- at most 1 in size
abbrev Small : Format → Float → Type 0
Small f x = positive_part f x + negative_part f x ≤ 2 ^ low f

-- ---- one of the two sums of an order: of factor P c
module _ (f : Format) (P : ℕ → ℕ → Float) (factor : ℕ → Float) (c : ℕ → ℕ → Float) where
  -- computed: factor P c
  abbrev pub summand : ℕ → ℕ → Float
  summand n m = mul f (mul f (factor n) (P n m)) (c n m)

  -- the positive and the negative part of a term, in units of 2 ^ -(3 low)
  unfoldable pub positive_term : ℕ → ℕ → ℕ
  positive_term n m = positive_product f (factor n) (P n m) * positive_part f (c n m) + negative_product f (factor n) (P n m) * negative_part f (c n m)

  unfoldable pub negative_term : ℕ → ℕ → ℕ
  negative_term n m = positive_product f (factor n) (P n m) * negative_part f (c n m) + negative_product f (factor n) (P n m) * positive_part f (c n m)

  module _ (fP : (n m : ℕ) → T (fits f (P n m))) (ff : (n : ℕ) → T (fits f (factor n))) (fc : (n m : ℕ) → T (fits f (c n m)))
      (big : 4 * (guard + 1) ≤ 2 ^ prec f) where
    summand_approximates : (n m : ℕ) → Small f (c n m) → T (finite (summand n m))
        → Approximates f (2 ^ low f * 2 ^ low f) (summand n m) (positive_term n m) (negative_term n m) (2 * (guard + 1)) (2 * (2 ^ low f * 2 ^ low f))
    unfolding positive_term negative_term
    summand_approximates n m small t =
        weaken (2 * (guard + 1)) (2 * (2 ^ low f * 2 ^ low f)) (omega arith) (halves (2 ^ low f) (positive_part f (c n m) + negative_part f (c n m)) small)
        (approximates_mul_right (c n m) (omega arith)
        (approximates_product (factor n) (P n m) (ff n) (fP n m) (mul_finite_left f (mul f (factor n) (P n m)) (c n m) t)) (fc n m) t)
      where
        halves : (L y : ℕ) → y ≤ L → L * y + L * L ≤ 2 * (L * L)
        halves L y h = omega (arith, mul-le-mul_left L h)

    -- the sum of the order m over the degrees below n, times x, a cosine or a sine
    order_approximates : (x : Float) → T (fits f x) → Small f x → (n m : ℕ) → ((i : ℕ) → i < n → m ≤ i → Small f (c i m)) → (n + 3) * (guard + 1) ≤ 2 ^ prec f
        → T (finite (mul f (column_sum f summand n m) x))
        → Approximates f (2 ^ low f * 2 ^ low f * 2 ^ low f) (mul f (column_sum f summand n m) x)
        (column_total positive_term n m * positive_part f x + column_total negative_term n m * negative_part f x)
        (column_total positive_term n m * negative_part f x + column_total negative_term n m * positive_part f x) ((n + 3) * (guard + 1))
        ((2 * n + 1) * (2 ^ low f * 2 ^ low f * 2 ^ low f))
    order_approximates x fx sx n m small h t =
        weaken ((n + 3) * (guard + 1)) ((2 * n + 1) * (2 ^ low f * 2 ^ low f * 2 ^ low f)) (omega arith)
        (halves (2 ^ low f * 2 ^ low f) (2 ^ low f) (positive_part f x + negative_part f x) sx)
        (approximates_mul_right x (omega arith)
        (approximates_column summand positive_term negative_term n m (λ i l k. summand_approximates i m (small i l k)) (omega arith)
        (mul_finite_left f (column_sum f summand n m) x t)) fx t)
      where
        halves : (s L y : ℕ) → y ≤ L → n * (2 * s) * y + s * L ≤ (2 * n + 1) * (s * L)
        halves s L y h = omega (arith, mul-le-mul_left (n * (2 * s)) h)

-- from the distance D with its budget of 2 N + 6 roundings to the margin: K parts of 2 ^ -prec, and M
to_margin : (D A N K M g U S : ℕ) → 0 < g → (2 * N + 6) * (g + 1) ≤ K * g → (K + U) * ((N + 1) * (4 * N + 6)) ≤ 2 * M * U
    → D * (2 * (g * U)) ≤ ((suc N + 4) * (g + 1) + (0 + suc N) * (g + 1)) * (A * 2 + (0 + suc N * (2 * (2 * suc N + 1) * S))) + g * U *
    (0 + suc N * (2 * (2 * suc N + 1) * S))
    → D * U ≤ K * A + M * S * U
to_margin D A N K M g U S G a b h = finish (0 + suc N * (2 * (2 * suc N + 1) * S)) refl h
  where
    collect : (w z : ℕ) → D * (2 * (g * U)) ≤ ((suc N + 4) * (g + 1) + (0 + suc N) * (g + 1)) * w + g * U * z
        → (2 * N + 6) * (g + 1) * w ≤ K * g * w → g * (D * (2 * U)) ≤ g * (K * w + U * z)
    collect w z h i = omega arith

    halve : (H : ℕ) → D * (2 * U) ≤ K * (A * 2 + H) + U * H → (K + U) * H ≤ 2 * M * U * S → D * U ≤ K * A + M * S * U
    halve H k l = omega arith

    finish : (H : ℕ) → H ≡ 0 + suc N * (2 * (2 * suc N + 1) * S)
        → D * (2 * (g * U)) ≤ ((suc N + 4) * (g + 1) + (0 + suc N) * (g + 1)) * (A * 2 + H) + g * U * H → D * U ≤ K * A + M * S * U
    finish H e h =
        halve H (le_of_mul-le-mul_left (collect (A * 2 + H) H h (mul-le-mul_right (A * 2 + H) a)) G)
        (omega (arith, mul-le-mul_right S b, ap (λ (x : ℕ). (K + U) * x) e))

-- ---- the value
module _ (f : Format) (P : ℕ → ℕ → Float) (factor : ℕ → Float) (c s : ℕ → ℕ → Float) (cos sin : ℕ → Float) where
  -- computed: an order's two sums over the degrees below n, times cosine and sine; the orders added
  abbrev pub order : ℕ → ℕ → Float
  order n m = add f (mul f (column_sum f (summand f P factor c) n m) (cos m)) (mul f (column_sum f (summand f P factor s) n m) (sin m))

  abbrev pub value : ℕ → Float
  value N = running_sum f (order (suc N)) (suc N) zero⁺

  -- the positive and the negative part of both terms of a pair, in units of 2 ^ -(4 low)
  abbrev pub positive_pair : ℕ → ℕ → ℕ
  positive_pair n m =
      combined (positive_term f P factor c) (negative_term f P factor c) (positive_term f P factor s) (negative_term f P factor s)
      (λ i. positive_part f (cos i)) (λ i. negative_part f (cos i)) (λ i. positive_part f (sin i)) (λ i. negative_part f (sin i)) n m

  abbrev pub negative_pair : ℕ → ℕ → ℕ
  negative_pair n m =
      combined (positive_term f P factor c) (negative_term f P factor c) (positive_term f P factor s) (negative_term f P factor s)
      (λ i. negative_part f (cos i)) (λ i. positive_part f (cos i)) (λ i. negative_part f (sin i)) (λ i. positive_part f (sin i)) n m

  -- the same of an order, by its columns' totals
  positive_order : ℕ → ℕ → ℕ
  positive_order n m =
      column_total (positive_term f P factor c) n m * positive_part f (cos m) + column_total (negative_term f P factor c) n m * negative_part f (cos m)
      + (column_total (positive_term f P factor s) n m * positive_part f (sin m) + column_total (negative_term f P factor s) n m * negative_part f (sin m))

  negative_order : ℕ → ℕ → ℕ
  negative_order n m =
      column_total (positive_term f P factor c) n m * negative_part f (cos m) + column_total (negative_term f P factor c) n m * positive_part f (cos m)
      + (column_total (positive_term f P factor s) n m * negative_part f (sin m) + column_total (negative_term f P factor s) n m * positive_part f (sin m))

  positive_total : (n : ℕ) → 0 + line_total (positive_order n) n ≡ triangle_total positive_pair n
  unfolding positive_order
  positive_total n =
      none (line_total (positive_order n) n)
      ∙ line_equal (positive_order n) (column_total positive_pair n)
      (columns_combined (positive_term f P factor c) (negative_term f P factor c) (positive_term f P factor s) (negative_term f P factor s)
      (λ i. positive_part f (cos i)) (λ i. negative_part f (cos i)) (λ i. positive_part f (sin i)) (λ i. negative_part f (sin i)) n) n
      ∙ columns_triangle positive_pair n n (le_refl n)
    where
      none : (x : ℕ) → 0 + x ≡ x
      none x = omega arith

  negative_total : (n : ℕ) → 0 + line_total (negative_order n) n ≡ triangle_total negative_pair n
  unfolding negative_order
  negative_total n =
      none (line_total (negative_order n) n)
      ∙ line_equal (negative_order n) (column_total negative_pair n)
      (columns_combined (positive_term f P factor c) (negative_term f P factor c) (positive_term f P factor s) (negative_term f P factor s)
      (λ i. negative_part f (cos i)) (λ i. positive_part f (cos i)) (λ i. negative_part f (sin i)) (λ i. positive_part f (sin i)) n) n
      ∙ columns_triangle negative_pair n n (le_refl n)
    where
      none : (x : ℕ) → 0 + x ≡ x
      none x = omega arith

  module _ (fP : (n m : ℕ) → T (fits f (P n m))) (ff : (n : ℕ) → T (fits f (factor n))) (fc : (n m : ℕ) → T (fits f (c n m)))
      (fs : (n m : ℕ) → T (fits f (s n m))) (fo : (m : ℕ) → T (fits f (cos m))) (fi : (m : ℕ) → T (fits f (sin m)))
      (N : ℕ) (sc : (n m : ℕ) → n < suc N → m ≤ n → Small f (c n m)) (ss : (n m : ℕ) → n < suc N → m ≤ n → Small f (s n m))
      (so : (m : ℕ) → m < suc N → Small f (cos m)) (si : (m : ℕ) → m < suc N → Small f (sin m))
      (room : (suc N + 4 + suc N) * (guard + 1) ≤ 2 ^ prec f) where
    orders_approximate : (m : ℕ) → m < suc N → T (finite (order (suc N) m))
        → Approximates f (2 ^ low f * 2 ^ low f * 2 ^ low f) (order (suc N) m) (positive_order (suc N) m) (negative_order (suc N) m)
        ((suc N + 4) * (guard + 1)) (2 * (2 * suc N + 1) * (2 ^ low f * 2 ^ low f * 2 ^ low f))
    unfolding positive_order negative_order
    orders_approximate m l t =
        let x = mul f (column_sum f (summand f P factor c) (suc N) m) (cos m) in
        let y = mul f (column_sum f (summand f P factor s) (suc N) m) (sin m) in
        restated
        (approximates_add (omega arith)
        (order_approximates f P factor c fP ff fc (omega arith) (cos m) (fo m) (so m l) (suc N) m (λ i k j. sc i m k j) (omega arith) (add_finite_left f x y t))
        (order_approximates f P factor s fP ff fs (omega arith) (sin m) (fi m) (si m l) (suc N) m (λ i k j. ss i m k j) (omega arith)
        (add_finite_right f x y t)) t)
        refl refl (omega arith) (twice (2 * suc N + 1) (2 ^ low f * 2 ^ low f * 2 ^ low f))
      where
        twice : (a b : ℕ) → a * b + a * b ≡ 2 * a * b
        twice a b = omega arith

    value_approximates : T (finite (value N))
        → Approximates f (2 ^ low f * 2 ^ low f * 2 ^ low f) (value N) (triangle_total positive_pair (suc N)) (triangle_total negative_pair (suc N))
        ((suc N + 4) * (guard + 1) + (0 + suc N) * (guard + 1)) (0 + suc N * (2 * (2 * suc N + 1) * (2 ^ low f * 2 ^ low f * 2 ^ low f)))
    value_approximates t =
        restated
        (approximates_line (order (suc N)) (positive_order (suc N)) (negative_order (suc N)) (suc N) zero⁺ 0 orders_approximate (omega arith)
        (λ b. weaken ((suc N + 4) * (guard + 1) + 0 * (guard + 1)) 0 (omega arith) (le_refl 0) (approximates_zero (2 ^ low f * 2 ^ low f * 2 ^ low f))) t)
        (positive_total (suc N)) (negative_total (suc N)) refl refl

    pub grid-bound : (K M : ℕ) → T (finite (value N)) → 0 < guard → (2 * N + 6) * (guard + 1) ≤ K * guard
        → (K + 2 ^ prec f) * ((N + 1) * (4 * N + 6)) ≤ 2 * M * 2 ^ prec f
        → dist (positive_part f (value N) * (2 ^ low f * 2 ^ low f * 2 ^ low f) + triangle_total negative_pair (suc N))
        (negative_part f (value N) * (2 ^ low f * 2 ^ low f * 2 ^ low f) + triangle_total positive_pair (suc N)) * 2 ^ prec f
        ≤ K * (triangle_total positive_pair (suc N) + triangle_total negative_pair (suc N)) + M * (2 ^ low f * 2 ^ low f * 2 ^ low f) * 2 ^ prec f
    grid-bound K M t g k m =
        to_margin D (triangle_total positive_pair (suc N) + triangle_total negative_pair (suc N)) N K M guard (2 ^ prec f)
        (2 ^ low f * 2 ^ low f * 2 ^ low f) g k m (value_approximates t).bound
      where
        D : ℕ
        D =
            dist (positive_part f (value N) * (2 ^ low f * 2 ^ low f * 2 ^ low f) + triangle_total negative_pair (suc N))
            (negative_part f (value N) * (2 ^ low f * 2 ^ low f * 2 ^ low f) + triangle_total positive_pair (suc N))
