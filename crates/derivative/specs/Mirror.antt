-- The derivatives with the sine t negated and the cosine u kept: the first is the old one times (-1) ^ (n - m + 1), the second the old one times
-- (-1) ^ (n - m), for all numbers t and u and all tables a and b. Assumes nothing.
use Rattle.std.specs.Prelude.{◌≡◌, Bool, true, false, cond, T, ltb, Float}
use Rattle.std.proofs.Common.{subst, arith, ltb→lt}
use Prim.Native.Nat.{ℕ, zero, suc, ◌+◌, ◌-◌, ◌%◌, ◌≤◌, ◌<◌}
use borrow.Author.Tests.{ne_eqb}
use Rattle.std.specs.Float.Ieee.{neg}
use Rattle.number.specs.Float64.{◌⊖◌, ◌⊗◌, zero64}
use Rattle.number.specs.Parity.{is_odd, odd_same}
use Rattle.number.specs.Turned.{Turned}
use Rattle.number.specs.TurnedLaws.{turned_sub, turned_left, turned_zero}
use Rattle.recursion.specs.Recursion.{p_cell}
use Rattle.recursion.specs.Mirror.{p_mirror}
use Rattle.derivative.specs.Derivative.{half64, lower_of, upper_of, zonal_of, d_cell, dp_cell, ddp_cell}

-- the derivative of a table whose entries turn as (-1) ^ (n - m + j): the neighbours of an entry turn the other way
module _ (j : ℕ) (s s' : ℕ → ℕ → Float) (each : (n m : ℕ) → m ≤ n → Turned (is_odd (n - m + j)) (s n m) (s' n m)) where
  neighbour : (n m k : ℕ) → m ≤ n → (n - m + j) % 2 ≡ k % 2 → Turned (is_odd k) (s n m) (s' n m)
  neighbour n m k h e = subst (λ (z : Bool). Turned z (s n m) (s' n m)) (odd_same (n - m + j) k e) (each n m h)

  pub d_mirror : (n m : ℕ) → m ≤ n → Turned (is_odd (n - m + (j + 1))) (d_cell s n m) (d_cell s' n m)
  unfolding d_cell
  d_mirror zero m h = turned_zero (is_odd (0 - m + (j + 1)))
  d_mirror (suc n) zero h =
      let k = suc n - 0 + (j + 1) in
      rw (ne_eqb (suc n) 0 (λ e. omega arith)) (turned_left (is_odd k) (zonal_of (suc n)) (neighbour (suc n) 1 k (omega arith) (omega arith)))
  d_mirror (suc n) (suc m) h =
      rw (ne_eqb (suc n) 0 (λ e. omega arith), ne_eqb (suc m) 0 (λ e. omega arith)) (by (ltb (suc m) (suc n)) (ltb→lt (suc m) (suc n)))
    where
      k : ℕ
      k = suc n - suc m + (j + 1)

      below : Turned (is_odd k) (lower_of (suc n) (suc m) ⊗ s (suc n) (suc m - 1)) (lower_of (suc n) (suc m) ⊗ s' (suc n) (suc m - 1))
      below = turned_left (is_odd k) (lower_of (suc n) (suc m)) (neighbour (suc n) (suc m - 1) k (omega arith) (omega arith))

      by : (z : Bool) → (T z → suc m < suc n)
          → Turned (is_odd k)
          (neg half64 ⊗ (lower_of (suc n) (suc m) ⊗ s (suc n) (suc m - 1) ⊖ cond z (upper_of (suc n) (suc m) ⊗ s (suc n) (suc m + 1)) zero64))
          (neg half64 ⊗ (lower_of (suc n) (suc m) ⊗ s' (suc n) (suc m - 1) ⊖ cond z (upper_of (suc n) (suc m) ⊗ s' (suc n) (suc m + 1)) zero64))
      by true l =
          let inner = l tt in
          turned_left (is_odd k) (neg half64)
          (turned_sub below (turned_left (is_odd k) (upper_of (suc n) (suc m)) (neighbour (suc n) (suc m + 1) k (omega arith) (omega arith))))
      by false l = turned_left (is_odd k) (neg half64) (turned_sub below (turned_zero (is_odd k)))

module _ (a b : ℕ → Float) (t u : Float) where
  -- P itself, with a shift of 0
  pub p_each : (n m : ℕ) → m ≤ n → Turned (is_odd (n - m + 0)) (p_cell a b t u n m) (p_cell a b (neg t) u n m)
  p_each n m h = subst (λ (z : Bool). Turned z (p_cell a b t u n m) (p_cell a b (neg t) u n m)) (odd_same (n - m) (n - m + 0) (omega arith)) (p_mirror a b t u n m)

  pub dp_mirror : (n m : ℕ) → m ≤ n → Turned (is_odd (n - m + 1)) (dp_cell a b t u n m) (dp_cell a b (neg t) u n m)
  dp_mirror n m h =
      subst (λ (z : Bool). Turned z (dp_cell a b t u n m) (dp_cell a b (neg t) u n m)) (odd_same (n - m + (0 + 1)) (n - m + 1) (omega arith))
      (d_mirror 0 (p_cell a b t u) (p_cell a b (neg t) u) p_each n m h)

  pub ddp_mirror : (n m : ℕ) → m ≤ n → Turned (is_odd (n - m)) (ddp_cell a b t u n m) (ddp_cell a b (neg t) u n m)
  ddp_mirror n m h =
      subst (λ (z : Bool). Turned z (ddp_cell a b t u n m) (ddp_cell a b (neg t) u n m)) (odd_same (n - m + (1 + 1)) (n - m) (omega arith))
      (d_mirror 1 (dp_cell a b t u) (dp_cell a b (neg t) u) dp_mirror n m h)
