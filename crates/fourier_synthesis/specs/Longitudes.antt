-- The values along one row of a grid, from the sums of its orders over the degrees. Assumes nothing.
use Rattle.std.specs.Prelude.{◌≡◌, List, ℕ, zero, suc, ◌+◌, ◌*◌, ◌<◌, get_or, Float}
use Rattle.std.proofs.Common.{sym, subst, ◌∙◌, arith}
use Rattle.std.proofs.Math.Path.{ap}
use Rattle.std.specs.Float.{nan, binary64}
use Rattle.number.specs.Float64.{◌⊕◌, ◌⊗◌}
use Rattle.storage.specs.Lanes.{lane}
use Rattle.rounding.specs.Sums.{zero⁺, running_sum}
use Rattle.rounding.specs.SumSteps.{running_none, running_more}
use Rattle.legendre.specs.Directions.{cosines, sines}

-- the order m at a longitude whose cosines and sines start at index k: x m times the cosine and y m times the sine
unfoldable pub order_from : (x y trig : List Float) (k m : ℕ) → Float
order_from x y trig k m = get_or x m nan ⊗ get_or trig (k + (m + m)) nan ⊕ get_or y m nan ⊗ get_or trig (k + (m + m + 1)) nan

-- the orders below m added over rising m from +0.0
abbrev pub orders_below : (x y trig : List Float) (k m : ℕ) → Float
orders_below x y trig k m = running_sum binary64 (order_from x y trig k) m zero⁺

unfoldable pub point_from : (N : ℕ) (x y trig : List Float) (k : ℕ) → Float
point_from N x y trig k = orders_below x y trig k (N + 1)

-- the order m at longitude j, and the value there
unfoldable pub order_term : (N : ℕ) (x y trig : List Float) (j m : ℕ) → Float
order_term N x y trig j m = get_or x m nan ⊗ cosines trig N j m ⊕ get_or y m nan ⊗ sines trig N j m

unfoldable pub point_at : (N : ℕ) (x y trig : List Float) (j : ℕ) → Float
point_at N x y trig j = running_sum binary64 (order_term N x y trig j) (N + 1) zero⁺

-- the values from a longitude on
unfoldable pub point_after : (first N : ℕ) (x y trig : List Float) (i : ℕ) → Float
point_after first N x y trig i = point_at N x y trig (first + i)

pub point_is : (N : ℕ) (x y trig : List Float) (j k : ℕ) → k ≡ j * (N + N + 2) → point_from N x y trig k ≡ point_at N x y trig j
unfolding point_from point_at order_from order_term cosines sines
point_is N x y trig j k e = ap (λ (i : ℕ). orders_below x y trig i (N + 1)) e

pub point_after_lem : (first N : ℕ) (x y trig : List Float) (i j : ℕ) → first + i ≡ j → point_at N x y trig j ≡ point_after first N x y trig i
unfolding point_after
point_after_lem first N x y trig i j e = ap (point_at N x y trig) (sym e)

-- ---- eight longitudes side by side
-- the orders below m added, at eight longitudes of which the first's cosines and sines start at index k
pub record EightPoints (x y trig : List Float) (k stride m : ℕ) (a b c d e f g h : Float) : Type 0 where
  pub of_a : a ≡ orders_below x y trig k m
  pub of_b : b ≡ orders_below x y trig (k + stride) m
  pub of_c : c ≡ orders_below x y trig (k + stride + stride) m
  pub of_d : d ≡ orders_below x y trig (k + stride + stride + stride) m
  pub of_e : e ≡ orders_below x y trig (k + stride + stride + stride + stride) m
  pub of_f : f ≡ orders_below x y trig (k + stride + stride + stride + stride + stride) m
  pub of_g : g ≡ orders_below x y trig (k + stride + stride + stride + stride + stride + stride) m
  pub of_h : h ≡ orders_below x y trig (k + stride + stride + stride + stride + stride + stride + stride) m

module _ (x y trig : List Float) where
  -- one more order at one longitude
  pub order_more : (k m : ℕ) {s : Float} → s ≡ orders_below x y trig k m → s ⊕ order_from x y trig k m ≡ orders_below x y trig k (m + 1)
  order_more k m e = ap (λ (s : Float). s ⊕ order_from x y trig k m) e ∙ running_more binary64 (order_from x y trig k) m zero⁺

  pub eight_none : (k stride : ℕ) → EightPoints x y trig k stride 0 zero⁺ zero⁺ zero⁺ zero⁺ zero⁺ zero⁺ zero⁺ zero⁺
  eight_none k stride =
      let none : (i : ℕ) → zero⁺ ≡ orders_below x y trig i 0 = λ i. running_none binary64 (order_from x y trig i) zero⁺ in
      record { of_a = none _; of_b = none _; of_c = none _; of_d = none _; of_e = none _; of_f = none _; of_g = none _; of_h = none _ }

  module _ {k stride m : ℕ} {a b c d e f g h : Float} (p : EightPoints x y trig k stride m a b c d e f g h) where
    pub eight_more : EightPoints x y trig k stride (m + 1)
        (a ⊕ order_from x y trig k m)
        (b ⊕ order_from x y trig (k + stride) m)
        (c ⊕ order_from x y trig (k + stride + stride) m)
        (d ⊕ order_from x y trig (k + stride + stride + stride) m)
        (e ⊕ order_from x y trig (k + stride + stride + stride + stride) m)
        (f ⊕ order_from x y trig (k + stride + stride + stride + stride + stride) m)
        (g ⊕ order_from x y trig (k + stride + stride + stride + stride + stride + stride) m)
        (h ⊕ order_from x y trig (k + stride + stride + stride + stride + stride + stride + stride) m)
    eight_more = record {
      of_a = order_more _ m p.of_a;
      of_b = order_more _ m p.of_b;
      of_c = order_more _ m p.of_c;
      of_d = order_more _ m p.of_d;
      of_e = order_more _ m p.of_e;
      of_f = order_more _ m p.of_f;
      of_g = order_more _ m p.of_g;
      of_h = order_more _ m p.of_h;
    }

    pub eight_to : {n : ℕ} → m ≡ n → EightPoints x y trig k stride n a b c d e f g h
    eight_to q = subst (λ (i : ℕ). EightPoints x y trig k stride i a b c d e f g h) q p

    -- they are the values at the longitudes from j on
    pub lanes : (N j : ℕ) → m ≡ N + 1 → stride ≡ N + N + 2 → k ≡ j * stride → (i : ℕ) → i < 8 → point_at N x y trig (j + i) ≡ lane a b c d e f g h i
    unfolding lane point_from
    lanes N j em es ek i l = go i l
      where
        start : k ≡ j * (N + N + 2)
        start = ek ∙ ap (λ (n : ℕ). j * n) es

        at : {v : Float} (i n : ℕ) → v ≡ orders_below x y trig n m → n ≡ (j + i) * (N + N + 2) → point_at N x y trig (j + i) ≡ v
        at i n r q = sym (point_is N x y trig (j + i) n q) ∙ ap (orders_below x y trig n) (sym em) ∙ sym r

        go : (i : ℕ) → i < 8 → point_at N x y trig (j + i) ≡ lane a b c d e f g h i
        go zero l = at 0 _ p.of_a (omega (arith, start))
        go (suc zero) l = at 1 _ p.of_b (omega (arith, start))
        go (suc (suc zero)) l = at 2 _ p.of_c (omega (arith, start))
        go (suc (suc (suc zero))) l = at 3 _ p.of_d (omega (arith, start))
        go (suc (suc (suc (suc zero)))) l = at 4 _ p.of_e (omega (arith, start))
        go (suc (suc (suc (suc (suc zero))))) l = at 5 _ p.of_f (omega (arith, start))
        go (suc (suc (suc (suc (suc (suc zero)))))) l = at 6 _ p.of_g (omega (arith, start))
        go (suc (suc (suc (suc (suc (suc (suc zero))))))) l = at 7 _ p.of_h (omega (arith, start))
        go (suc (suc (suc (suc (suc (suc (suc (suc i)))))))) l = absurd (let z : ◌≡◌ {A = ℕ} 0 1 = omega arith in omega arith)
