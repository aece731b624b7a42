-- The recursion with the sine t negated and the cosine u kept: P(n, m) is the old one times (-1) ^ (n - m), for all numbers t and u and all tables a
-- and b. Assumes nothing.
use Rattle.std.specs.Prelude.{◌≡◌, refl, Bool, true, Float}
use Rattle.std.proofs.Common.{sym, ◌∙◌, arith}
use Rattle.std.proofs.Math.Path.{subst}
use Rattle.std.proofs.Math.Bool.{false, not}
use Prim.Native.Nat.{ℕ, zero, suc, ◌+◌, ◌-◌}
use Rattle.std.specs.Float.Ieee.{neg}
use Rattle.number.specs.Parity.{is_odd, odd_same, odd_next, even_is, odd_is}
use Rattle.number.specs.Turned.{Turned}
use Rattle.number.specs.TurnedLaws.{turned_same, turned_neg, turned_mul, turned_sub, turned_right, turned_zero}
use Rattle.storage.specs.Triangle.{idx}
use Rattle.recursion.specs.Recursion.{pmm, rescale, step, q, q_cell, p_cell}

-- a t q1 - b q2, where q1 turns as s says and q2 the other way
step_turned : (s : Bool) (a b t : Float) {q1 q1' q2 q2' : Float} → Turned s q1 q1' → Turned (not s) q2 q2'
    → Turned (not s) (step a b t q2 q1) (step a b (neg t) q2' q1')
step_turned true a b t h k = turned_sub (turned_mul (turned_mul (turned_same a) (turned_neg t)) h) (turned_mul (turned_same b) k)
step_turned false a b t h k = turned_sub (turned_mul (turned_mul (turned_same a) (turned_neg t)) h) (turned_mul (turned_same b) k)

module _ (a b : ℕ → Float) (t : Float) where
  q_turned : (m k : ℕ) → Turned (is_odd k) (q a b t m k) (q a b (neg t) m k)
  unfolding q
  q_turned m zero = subst (λ (z : Bool). Turned z (pmm m) (pmm m)) (sym (even_is 0 refl)) (turned_same (pmm m))
  q_turned m (suc zero) =
      subst (λ (z : Bool). Turned z (q a b t m 1) (q a b (neg t) m 1)) (sym (odd_is 1 refl))
      (step_turned false (a (idx (m + 1) m)) (b (idx (m + 1) m)) t (turned_same (pmm m)) (turned_zero true))
  q_turned m (suc (suc k)) =
      let last : is_odd (suc (suc k)) ≡ not (is_odd (suc k)) = odd_next (suc k) in
      let older : is_odd k ≡ not (is_odd (suc k)) = odd_same k (suc (suc k)) (omega arith) ∙ last in
      subst (λ (z : Bool). Turned z (q a b t m (suc (suc k))) (q a b (neg t) m (suc (suc k)))) (sym last)
      (step_turned (is_odd (suc k)) (a (idx (m + suc (suc k)) m)) (b (idx (m + suc (suc k)) m)) t (q_turned m (suc k))
      (subst (λ (z : Bool). Turned z (q a b t m k) (q a b (neg t) m k)) older (q_turned m k)))

  pub p_mirror : (u : Float) (n m : ℕ) → Turned (is_odd (n - m)) (p_cell a b t u n m) (p_cell a b (neg t) u n m)
  unfolding p_cell q_cell
  p_mirror u n m = turned_right (is_odd (n - m)) (rescale u m) (q_turned m (n - m))
