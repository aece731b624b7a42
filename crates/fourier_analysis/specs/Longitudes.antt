-- The sums over the longitudes of one row, from indices into the two lists. Assumes nothing.
use Rattle.std.proofs.Math.Path.{◌≡◌, sym, ap}
use Rattle.std.proofs.Common.{subst, ◌∙◌}
use Rattle.std.specs.Prelude.{List, length, set, Float}
use Prim.Native.Nat.{ℕ, zero, suc, ◌+◌, ◌*◌, ◌≤◌, ◌<◌}
use native.Mathlib.Omega.{arith}
use Rattle.std.proofs.Math.ListN.{get_or}
use Rattle.std.specs.Float.Ieee.{nan}
use Rattle.std.specs.Float.{binary64}
use Rattle.number.specs.Float64.{◌⊕◌, ◌⊗◌}
use Rattle.storage.specs.Filled.{Filled, filled_more, filled_to}
use Rattle.storage.specs.Lanes.{lane}
use Rattle.storage.specs.Rectangle.{by_rows, by_row, by_rows_at}
use Rattle.rounding.specs.Sums.{zero⁺, running_sum}
use Rattle.rounding.specs.SumSteps.{running_none, running_more}

-- the term of longitude j, of a row that starts at index at and cosines, or sines, that start at index k
unfoldable pub term_from : (values trig : List Float) (at k j : ℕ) → Float
term_from values trig at k j = get_or values (at + j) nan ⊗ get_or trig (k + (j + j)) nan

-- the first j terms added
abbrev pub sum_from : (values trig : List Float) (at k j : ℕ) → Float
sum_from values trig at k j = running_sum binary64 (term_from values trig at k) j zero⁺

-- the sums of order m over L longitudes, with the cosines and with the sines
unfoldable pub cosines_from : (values trig : List Float) (at L m : ℕ) → Float
cosines_from values trig at L m = sum_from values trig at (m * (L + L)) L

unfoldable pub sines_from : (values trig : List Float) (at L m : ℕ) → Float
sines_from values trig at L m = sum_from values trig at (m * (L + L) + 1) L

-- the pair of order m: with the cosines, then with the sines
unfoldable pub pair_from : (values trig : List Float) (at L m : ℕ) → ℕ → Float
pair_from values trig at L m zero = cosines_from values trig at L m
pair_from values trig at L m (suc j) = sines_from values trig at L m

module _ (values trig : List Float) where
  -- one more longitude
  pub term_more : (at k j : ℕ) {s : Float} → s ≡ sum_from values trig at k j → s ⊕ term_from values trig at k j ≡ sum_from values trig at k (j + 1)
  term_more at k j e = ap (λ (s : Float). s ⊕ term_from values trig at k j) e ∙ running_more binary64 (term_from values trig at k) j zero⁺

  pub term_none : (at k : ℕ) → zero⁺ ≡ sum_from values trig at k 0
  term_none at k = running_none binary64 (term_from values trig at k) zero⁺

  -- a sum whose pairs start where those of order m do
  pub cosines_at : (at L m : ℕ) {k : ℕ} {v : Float} → v ≡ sum_from values trig at k L → k ≡ m * (L + L) → v ≡ cosines_from values trig at L m
  unfolding cosines_from
  cosines_at at L m e h = e ∙ ap (λ (i : ℕ). sum_from values trig at i L) h

  pub sines_at : (at L m : ℕ) {k : ℕ} {v : Float} → v ≡ sum_from values trig at (k + 1) L → k ≡ m * (L + L) → v ≡ sines_from values trig at L m
  unfolding sines_from
  sines_at at L m e h = e ∙ ap (λ (i : ℕ). sum_from values trig at (i + 1) L) h

  -- the pair of order m stored after those below it
  pub pairs_more : (at L m : ℕ) {d l : List Float} {x y : ℕ} {v w : Float} → Filled 0 (by_rows (pair_from values trig at L) 2) (m * 2) d l
      → v ≡ cosines_from values trig at L m → w ≡ sines_from values trig at L m → x ≡ m + m → y ≡ m + m + 1
      → Filled 0 (by_rows (pair_from values trig at L) 2) ((m + 1) * 2) d (set (set l x v) y w)
  unfolding pair_from
  pairs_more at L m {d} {l} {x} {y} r ev ew ex ey =
      let F = pair_from values trig at L in
      let i : m * 2 ≡ m * 2 + 0 = omega arith in
      let one = filled_more {i = x} r (omega arith) (ev ∙ sym (by_row F 2 m 0 (omega arith)) ∙ ap (by_rows F 2) (sym i)) in
      filled_to (filled_more {i = y} one (omega arith) (ew ∙ sym (by_row F 2 m 1 (omega arith)))) (omega arith)

-- the first and the second number of pair m in a list of pairs
unfoldable pub first_of : List Float → ℕ → Float
first_of l m = get_or l (m + m) nan

unfoldable pub second_of : List Float → ℕ → Float
second_of l m = get_or l (m + m + 1) nan

module _ (values trig : List Float) (at L : ℕ) {count : ℕ} {d l : List Float} (r : Filled 0 (by_rows (pair_from values trig at L) 2) (count * 2) d l)
    (room : count * 2 ≤ length d) (m : ℕ) (h : m < count) where
  pub first_is : first_of l m ≡ cosines_from values trig at L m
  unfolding first_of pair_from
  first_is =
      let e : m + m ≡ m * 2 + 0 = omega arith in
      ap (λ (i : ℕ). get_or l i nan) e ∙ by_rows_at (pair_from values trig at L) 2 m 0 nan r (omega arith) (omega arith) room

  pub second_is : second_of l m ≡ sines_from values trig at L m
  unfolding second_of pair_from
  second_is =
      let e : m + m + 1 ≡ m * 2 + 1 = omega arith in
      ap (λ (i : ℕ). get_or l i nan) e ∙ by_rows_at (pair_from values trig at L) 2 m 1 nan r (omega arith) (omega arith) room

-- ---- four orders side by side
-- the first j terms added for four orders, of which the first's pairs start at index k: with the cosines in a, c, e, g, with the sines in b, d, f, h
pub record FourOrders (values trig : List Float) (at k stride j : ℕ) (a b c d e f g h : Float) : Type 0 where
  pub of_a : a ≡ sum_from values trig at k j
  pub of_b : b ≡ sum_from values trig at (k + 1) j
  pub of_c : c ≡ sum_from values trig at (k + stride) j
  pub of_d : d ≡ sum_from values trig at (k + stride + 1) j
  pub of_e : e ≡ sum_from values trig at (k + stride + stride) j
  pub of_f : f ≡ sum_from values trig at (k + stride + stride + 1) j
  pub of_g : g ≡ sum_from values trig at (k + stride + stride + stride) j
  pub of_h : h ≡ sum_from values trig at (k + stride + stride + stride + 1) j

module _ (values trig : List Float) where
  pub four_none : (at k stride : ℕ) → FourOrders values trig at k stride 0 zero⁺ zero⁺ zero⁺ zero⁺ zero⁺ zero⁺ zero⁺ zero⁺
  four_none at k stride =
      let none : (i : ℕ) → zero⁺ ≡ sum_from values trig at i 0 = term_none values trig at in
      record { of_a = none _; of_b = none _; of_c = none _; of_d = none _; of_e = none _; of_f = none _; of_g = none _; of_h = none _ }

  module _ {at k stride j : ℕ} {a b c d e f g h : Float} (p : FourOrders values trig at k stride j a b c d e f g h) where
    pub four_more : FourOrders values trig at k stride (j + 1)
        (a ⊕ term_from values trig at k j)
        (b ⊕ term_from values trig at (k + 1) j)
        (c ⊕ term_from values trig at (k + stride) j)
        (d ⊕ term_from values trig at (k + stride + 1) j)
        (e ⊕ term_from values trig at (k + stride + stride) j)
        (f ⊕ term_from values trig at (k + stride + stride + 1) j)
        (g ⊕ term_from values trig at (k + stride + stride + stride) j)
        (h ⊕ term_from values trig at (k + stride + stride + stride + 1) j)
    four_more = record {
      of_a = term_more values trig at _ j p.of_a;
      of_b = term_more values trig at _ j p.of_b;
      of_c = term_more values trig at _ j p.of_c;
      of_d = term_more values trig at _ j p.of_d;
      of_e = term_more values trig at _ j p.of_e;
      of_f = term_more values trig at _ j p.of_f;
      of_g = term_more values trig at _ j p.of_g;
      of_h = term_more values trig at _ j p.of_h;
    }

    pub four_to : {n : ℕ} → j ≡ n → FourOrders values trig at k stride n a b c d e f g h
    four_to q = subst (λ (i : ℕ). FourOrders values trig at k stride i a b c d e f g h) q p

    -- they are the sums of the orders from m on
    module _ (m L : ℕ) (ej : j ≡ L) (es : stride ≡ L + L) (ek : k ≡ m * stride) where
      start : k ≡ m * (L + L)
      start = ek ∙ ap (λ (n : ℕ). m * n) es

      all : {v : Float} (n : ℕ) → v ≡ sum_from values trig at n j → v ≡ sum_from values trig at n L
      all n r = r ∙ ap (sum_from values trig at n) ej

      -- the number at an index is that of its order and of the cosines or the sines
      cosine : {v : Float} (n o x : ℕ) → v ≡ sum_from values trig at n j → n ≡ o * (L + L) → x ≡ o * 2 + 0 → by_rows (pair_from values trig at L) 2 x ≡ v
      unfolding pair_from
      cosine n o x r q e =
          ap (by_rows (pair_from values trig at L) 2) e
          ∙ by_row (pair_from values trig at L) 2 o 0 (omega arith)
          ∙ sym (cosines_at values trig at L o (all n r) q)

      sine : {v : Float} (n o x : ℕ) → v ≡ sum_from values trig at (n + 1) j → n ≡ o * (L + L) → x ≡ o * 2 + 1 → by_rows (pair_from values trig at L) 2 x ≡ v
      unfolding pair_from
      sine n o x r q e =
          ap (by_rows (pair_from values trig at L) 2) e
          ∙ by_row (pair_from values trig at L) 2 o 1 (omega arith)
          ∙ sym (sines_at values trig at L o (all (n + 1) r) q)

      pub lanes : (i : ℕ) → i < 8 → by_rows (pair_from values trig at L) 2 (m * 2 + i) ≡ lane a b c d e f g h i
      unfolding lane
      lanes zero l = cosine _ m _ p.of_a start (omega arith)
      lanes (suc zero) l = sine _ m _ p.of_b start (omega arith)
      lanes (suc (suc zero)) l = cosine _ (m + 1) _ p.of_c (omega (arith, start, es)) (omega arith)
      lanes (suc (suc (suc zero))) l = sine _ (m + 1) _ p.of_d (omega (arith, start, es)) (omega arith)
      lanes (suc (suc (suc (suc zero)))) l = cosine _ (m + 2) _ p.of_e (omega (arith, start, es)) (omega arith)
      lanes (suc (suc (suc (suc (suc zero))))) l = sine _ (m + 2) _ p.of_f (omega (arith, start, es)) (omega arith)
      lanes (suc (suc (suc (suc (suc (suc zero)))))) l = cosine _ (m + 3) _ p.of_g (omega (arith, start, es)) (omega arith)
      lanes (suc (suc (suc (suc (suc (suc (suc zero))))))) l = sine _ (m + 3) _ p.of_h (omega (arith, start, es)) (omega arith)
      lanes (suc (suc (suc (suc (suc (suc (suc (suc i)))))))) l = absurd (let z : ◌≡◌ {A = ℕ} 0 1 = omega arith in omega arith)
