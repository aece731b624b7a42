-- How loops form the computed sums, term by term. Assumes nothing.
use Rattle.std.specs.Prelude.{◌≡◌, Bool, T, leb, Float}
use Rattle.std.proofs.Math.Path.{refl, ap}
use Rattle.std.proofs.Common.{◌∙◌, arith, leb→le}
use Prim.Native.Nat.{ℕ, zero, suc, ◌+◌, ◌≤◌, ◌<◌}
use Rattle.std.proofs.Math.Numerals.{add-one}
use Rattle.std.proofs.Math.Bool.{true, false, cond}
use borrow.Author.Tests.{le-leb, lt-leb}
use Rattle.std.specs.Float.{Format}
use Rattle.std.specs.Float.Ieee.{add}
use Rattle.rounding.specs.Sums.{zero⁺, running_sum, triangle_sum, column_sum}

module _ (f : Format) where
  module _ (t : ℕ → Float) where
    pub running_none : (x : Float) → x ≡ running_sum f t 0 x
    unfolding running_sum
    running_none x = refl

    pub running_more : (k : ℕ) (x : Float) → add f (running_sum f t k x) (t k) ≡ running_sum f t (k + 1) x
    unfolding running_sum
    running_more k x = rw add-one refl

  -- it looks at its first k terms alone
  pub running_same : (t t' : ℕ → Float) (k : ℕ) (x : Float) → ((i : ℕ) → i < k → t i ≡ t' i) → running_sum f t k x ≡ running_sum f t' k x
  unfolding running_sum
  running_same t t' zero x e = refl
  running_same t t' (suc k) x e =
      let one = running_same t t' k x (λ i h. e i (omega arith)) in
      ap (λ (y : Float). add f y (t k)) one ∙ ap (add f (running_sum f t' k x)) (e k (omega arith))

  pub triangle_none : (t : ℕ → ℕ → Float) → zero⁺ ≡ triangle_sum f t 0
  unfolding triangle_sum
  triangle_none t = refl

  pub triangle_more : (t : ℕ → ℕ → Float) (n : ℕ) → running_sum f (t n) (n + 1) (triangle_sum f t n) ≡ triangle_sum f t (n + 1)
  unfolding triangle_sum
  triangle_more t n = rw add-one refl

  -- degree n adds to the orders that it has, and to no other
  module _ (t : ℕ → ℕ → Float) where
    pub column_none : (m : ℕ) → zero⁺ ≡ column_sum f t 0 m
    unfolding column_sum
    column_none m = refl

    pub column_more : (n m : ℕ) → m ≤ n → add f (column_sum f t n m) (t n m) ≡ column_sum f t (n + 1) m
    unfolding column_sum
    column_more n m h = rw (add-one, le-leb m n h) refl

    pub column_past : (n m : ℕ) → n < m → column_sum f t n m ≡ column_sum f t (n + 1) m
    unfolding column_sum
    column_past n m h = rw (add-one, lt-leb m n h) refl

  -- it looks at the terms of the degrees below n that have an order m
  pub column_same : (t t' : ℕ → ℕ → Float) (n m : ℕ) → ((i : ℕ) → i < n → m ≤ i → t i m ≡ t' i m)
      → column_sum f t n m ≡ column_sum f t' n m
  unfolding column_sum
  column_same t t' zero m e = refl
  column_same t t' (suc n) m e = go (leb m n) (leb→le m n) (column_same t t' n m (λ i h. e i (omega arith)))
    where
      go : (x : Bool) → (T x → m ≤ n) → column_sum f t n m ≡ column_sum f t' n m
          → cond x (add f (column_sum f t n m) (t n m)) (column_sum f t n m) ≡ cond x (add f (column_sum f t' n m) (t' n m)) (column_sum f t' n m)
      go true w below = ap (λ (y : Float). add f y (t n m)) below ∙ ap (add f (column_sum f t' n m)) (e n (omega arith) (w tt))
      go false w below = below
