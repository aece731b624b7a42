-- What the number of rounds and the flag of the definition tell of each other. Assumes nothing.
use Rattle.std.specs.Prelude.{◌≡◌, Bool, eqb}
use Rattle.std.proofs.Math.Path.{refl, subst}
use Rattle.std.proofs.Common.{sym, ◌∙◌, true≢false, add-one, arith}
use Rattle.std.proofs.Math.Bool.{true, false}
use Prim.Native.Nat.{ℕ, zero, suc, ◌+◌, ◌*◌, ◌≤◌}
use Rattle.storage.specs.Iterate.{iterate, iterate_done, iterate_last}
use Rattle.storage.specs.Counted.{Told, Counts, told}
use Rattle.ql.specs.Ql.{Tridiagonal, State, state, end_in, round_unless_alone, settled_in, rounds_in, rounds, and_before, rounds_at, iteration}

module _ (n l : ℕ) where
  raised_by : (t : Tridiagonal) (k : ℕ) (met b : Bool) → eqb (end_in n l t) l ≡ b → met ≡ false
      → settled_in (round_unless_alone n l (state t k met)) ≡ true → rounds_in (round_unless_alone n l (state t k met)) ≡ k
  unfolding round_unless_alone settled_in rounds_in
  raised_by t k met true h e = rw h (λ g. refl)
  raised_by t k met false h e = rw h (λ g. absurd (true≢false (sym g ∙ e)))

  raised : (s : State) → settled_in s ≡ false → settled_in (round_unless_alone n l s) ≡ true → rounds_in (round_unless_alone n l s) ≡ rounds_in s
  unfolding settled_in rounds_in
  raised (state t k met) e g = raised_by t k met (eqb (end_in n l t) l) refl e g

  stepped_by : (t : Tridiagonal) (k : ℕ) (met b : Bool) → eqb (end_in n l t) l ≡ b → settled_in (round_unless_alone n l (state t k met)) ≡ false
      → rounds_in (round_unless_alone n l (state t k met)) ≡ k + 1
  unfolding round_unless_alone settled_in rounds_in
  stepped_by t k met true h = rw h (λ g. absurd (true≢false g))
  stepped_by t k met false h = rw h (λ g. refl)

  stepped : (s : State) → settled_in s ≡ false → settled_in (round_unless_alone n l s) ≡ false → rounds_in (round_unless_alone n l s) ≡ rounds_in s + 1
  unfolding settled_in rounds_in
  stepped (state t k met) e g = stepped_by t k met (eqb (end_in n l t) l) refl g

  counts : Counts settled_in rounds_in (round_unless_alone n l)
  counts = record { raised = λ s. raised s; stepped = λ s. stepped s }

  counted : (t : Tridiagonal) (k : ℕ) → Told settled_in rounds_in k 100 (rounds n l t k)
  unfolding rounds settled_in rounds_in
  counted t k = told settled_in rounds_in (round_unless_alone n l) counts 100 (state t k false) refl

-- after the first l numbers: what their rounds and whether each met its stopping test tell of each other
pub record CountedBelow (l : ℕ) (s : State) : Type 0 where
  pub most : rounds_in s ≤ 100 * l
  pub early : settled_in s ≡ true → rounds_in s ≤ 99 * l
  pub full : settled_in s ≡ false → 100 ≤ rounds_in s

-- one l more
module _ (n l : ℕ) where
  more_by : (k : ℕ) (before : Bool) (s : State) → Told settled_in rounds_in k 100 s → (b : Bool) → settled_in s ≡ b
      → k ≤ 100 * l → (before ≡ true → k ≤ 99 * l) → (before ≡ false → 100 ≤ k) → CountedBelow (l + 1) (and_before before s)
  unfolding settled_in rounds_in
  more_by k true (state t k' met) r true g a e f = record {
    most = omega (arith, a, r.early g);
    early = λ h. omega (arith, e refl, r.early g);
    full = λ h. absurd (true≢false (sym g ∙ h));
  }
  more_by k true (state t k' met) r false g a e f = record {
    most = omega (arith, a, r.full g);
    early = λ h. absurd (true≢false (sym h ∙ g));
    full = λ h. omega (arith, r.full g);
  }
  more_by k false (state t k' met) r true g a e f = record {
    most = omega (arith, a, r.early g);
    early = λ h. absurd (true≢false (sym h));
    full = λ h. omega (arith, f refl, r.more);
  }
  more_by k false (state t k' met) r false g a e f = record {
    most = omega (arith, a, r.full g);
    early = λ h. absurd (true≢false (sym h));
    full = λ h. omega (arith, r.full g);
  }

  counted_more : (s : State) → CountedBelow l s → CountedBelow (l + 1) (rounds_at n l s)
  unfolding rounds_at settled_in rounds_in
  counted_more (state t k before) c = more_by k before (rounds n l t k) (counted n l t k) (settled_in (rounds n l t k)) refl c.most c.early c.full

module _ (n : ℕ) (t : Tridiagonal) where
  counted_below : (l : ℕ) → CountedBelow l (iterate (rounds_at n) 0 l (state t 0 true))
  unfolding settled_in rounds_in
  counted_below zero =
      subst (CountedBelow 0) (sym (iterate_done (rounds_at n) 0 0 (state t 0 true) (omega arith)))
      (record { most = omega arith; early = λ h. omega arith; full = λ h. absurd (true≢false h) })
  counted_below (suc l) =
      subst (λ (x : ℕ). CountedBelow x (iterate (rounds_at n) 0 x (state t 0 true))) (add-one l)
      (subst (CountedBelow (l + 1)) (iterate_last (rounds_at n) 0 l (state t 0 true) (omega arith)) (counted_more n l _ (counted_below l)))

  pub counted_rounds : CountedBelow n (iteration n t)
  unfolding iteration
  counted_rounds = counted_below n
