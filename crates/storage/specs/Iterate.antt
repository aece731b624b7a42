-- A loop as a function of the state: a counted loop, a loop that a test ends, and one that counts down. Each law says one turn of it, so that
-- an invariant can say: what the turns still to come make of the state now is what all turns make of the state at the start. Assumes nothing.
use Rattle.std.specs.Prelude.{◌≡◌, Bool, true, false}
use Rattle.std.proofs.Math.Path.{refl, ap}
use Rattle.std.proofs.Common.{sym, ◌∙◌, not-suc-le-zero, suc-add, add-zero, zero-add, add-one}
use Prim.Native.Nat.{ℕ, zero, suc, ◌+◌, ◌-◌, ◌<◌, ◌≤◌, zero-le}
use native.Mathlib.Omega.{arith}

module _ {ℓ} {S : Type ℓ} where
  -- the state that k turns of f make of s, the first of them turn i
  unfoldable pub turns : (ℕ → S → S) → ℕ → ℕ → S → S
  turns f i zero s = s
  turns f i (suc k) s = turns f (suc i) k (f i s)

  -- the state that the turns i, i + 1, .., n - 1 of f make of s
  unfoldable pub iterate : (ℕ → S → S) → ℕ → ℕ → S → S
  iterate f i n s = turns f i (n - i) s

  pub iterate_done : (f : ℕ → S → S) (i n : ℕ) (s : S) → n ≤ i → iterate f i n s ≡ s
  unfolding iterate turns
  iterate_done f i n s h = let e : n - i ≡ 0 = omega arith in rw e

  pub iterate_step : (f : ℕ → S → S) (i n : ℕ) (s : S) → i < n → iterate f i n s ≡ iterate f (i + 1) n (f i s)
  unfolding iterate turns
  iterate_step f i n s h = let e : n - i ≡ suc (n - (i + 1)) = omega arith in rw (e, add-one)

  turns_same : (f g : ℕ → S → S) (i k : ℕ) (s : S) → ((j : ℕ) (t : S) → i ≤ j → j < i + k → f j t ≡ g j t) → turns f i k s ≡ turns g i k s
  unfolding turns
  turns_same f g i zero s e = refl
  turns_same f g i (suc k) s e =
      ap (turns f (suc i) k) (e i s (omega arith) (omega arith))
      ∙ turns_same f g (suc i) k (g i s) (λ j t h l. e j t (omega arith) (omega arith))

  -- the same turns, said otherwise
  pub iterate_same : (f g : ℕ → S → S) (i n : ℕ) (s : S) → ((j : ℕ) (t : S) → i ≤ j → j < n → f j t ≡ g j t) → iterate f i n s ≡ iterate g i n s
  unfolding iterate
  iterate_same f g i n s e = turns_same f g i (n - i) s (λ j t h l. e j t h (omega arith))

  turns_join : (f : ℕ → S → S) (i j k : ℕ) (s : S) → turns f (i + j) k (turns f i j s) ≡ turns f i (j + k) s
  unfolding turns
  turns_join f i zero k s = rw (add-zero, zero-add)
  turns_join f i (suc j) k s =
      let e : i + suc j ≡ suc i + j = omega arith in
      ap (λ (n : ℕ). turns f n k (turns f (suc i) j (f i s))) e ∙ turns_join f (suc i) j k (f i s) ∙ ap (λ (n : ℕ). turns f i n s) (sym (suc-add j k))

  -- the turns up to j, and then those from j on
  pub iterate_join : (f : ℕ → S → S) (i j n : ℕ) (s : S) → i ≤ j → j ≤ n → iterate f j n (iterate f i j s) ≡ iterate f i n s
  unfolding iterate
  iterate_join f i j n s h l =
      let e : j ≡ i + (j - i) = omega arith in
      let g : j - i + (n - j) ≡ n - i = omega arith in
      ap (λ (m : ℕ). turns f m (n - j) (turns f i (j - i) s)) e ∙ turns_join f i (j - i) (n - j) s ∙ ap (λ (m : ℕ). turns f i m s) g

  -- one turn more, at the end
  pub iterate_last : (f : ℕ → S → S) (i n : ℕ) (s : S) → i ≤ n → f n (iterate f i n s) ≡ iterate f i (n + 1) s
  iterate_last f i n s h =
      sym (iterate_done f (n + 1) (n + 1) (f n (iterate f i n s)) (omega arith))
      ∙ sym (iterate_step f n (n + 1) (iterate f i n s) (omega arith))
      ∙ iterate_join f i n (n + 1) s h (omega arith)

  -- the state that at most k steps of f make of s: the test t stands before each step and ends the loop where it holds
  unfoldable pub iterate_until : (S → Bool) → (S → S) → ℕ → S → S
  iterate_until t f zero s = s
  iterate_until t f (suc k) s = elim (t s) [ true ↦ s | false ↦ iterate_until t f k (f s) ]

  -- how many steps that loop takes
  unfoldable pub steps_until : (S → Bool) → (S → S) → ℕ → S → ℕ
  steps_until t f zero s = zero
  steps_until t f (suc k) s = elim (t s) [ true ↦ zero | false ↦ suc (steps_until t f k (f s)) ]

  module _ (t : S → Bool) (f : S → S) where
    pub until_stop : (k : ℕ) (s : S) → t s ≡ true → iterate_until t f k s ≡ s
    unfolding iterate_until
    until_stop zero s h = refl
    until_stop (suc k) s h = rw (h, iterate_until)

    pub until_step : (i n : ℕ) (s : S) → i < n → t s ≡ false → iterate_until t f (n - i) s ≡ iterate_until t f (n - (i + 1)) (f s)
    unfolding iterate_until
    until_step i n s b h = let e : n - i ≡ suc (n - (i + 1)) = omega arith in rw (e, h, iterate_until)

    pub until_done : (i n : ℕ) (s : S) → n ≤ i → iterate_until t f (n - i) s ≡ s
    unfolding iterate_until
    until_done i n s b = let e : n - i ≡ 0 = omega arith in rw e

    pub steps_stop : (k : ℕ) (s : S) → t s ≡ true → steps_until t f k s ≡ 0
    unfolding steps_until
    steps_stop zero s h = refl
    steps_stop (suc k) s h = rw (h, steps_until)

    pub steps_step : (i n : ℕ) (s : S) → i < n → t s ≡ false → steps_until t f (n - i) s ≡ steps_until t f (n - (i + 1)) (f s) + 1
    unfolding steps_until
    steps_step i n s b h = let e : n - i ≡ suc (n - (i + 1)) = omega arith in rw (e, h, steps_until) (sym (add-one (steps_until t f (n - (i + 1)) (f s))))

    pub steps_done : (i n : ℕ) (s : S) → n ≤ i → steps_until t f (n - i) s ≡ 0
    unfolding steps_until
    steps_done i n s b = let e : n - i ≡ 0 = omega arith in rw e

    steps_suc : (k : ℕ) (s : S) → t s ≡ false → steps_until t f (suc k) s ≡ suc (steps_until t f k (f s))
    unfolding steps_until
    steps_suc k s h = rw (h, steps_until)

    until_suc : (k : ℕ) (s : S) → t s ≡ false → iterate_until t f (suc k) s ≡ iterate_until t f k (f s)
    unfolding iterate_until
    until_suc k s h = rw (h, iterate_until)

    most_by : (k : ℕ) (s : S) → steps_until t f k (f s) ≤ k → (b : Bool) → t s ≡ b → steps_until t f (suc k) s ≤ suc k
    most_by k s m true h = omega (arith, steps_stop (suc k) s h)
    most_by k s m false h = omega (arith, steps_suc k s h)

    pub steps_most : (k : ℕ) (s : S) → steps_until t f k s ≤ k
    unfolding steps_until
    steps_most zero s = zero-le
    steps_most (suc k) s = most_by k s (steps_most k (f s)) (t s) refl

    holds_by : (k : ℕ) (s : S) → (steps_until t f k (f s) < k → t (iterate_until t f k (f s)) ≡ true) → (b : Bool) → t s ≡ b
        → steps_until t f (suc k) s < suc k → t (iterate_until t f (suc k) s) ≡ true
    holds_by k s m true h l = ap t (until_stop (suc k) s h) ∙ h
    holds_by k s m false h l = ap t (until_suc k s h) ∙ m (omega (arith, steps_suc k s h))

    -- a loop that took fewer steps than it may ends where the test holds
    pub until_holds : (k : ℕ) (s : S) → steps_until t f k s < k → t (iterate_until t f k s) ≡ true
    until_holds zero s l = absurd (not-suc-le-zero l)
    until_holds (suc k) s l = holds_by k s (until_holds k (f s)) (t s) refl l

  -- the state that the turns l + k - 1, .., l + 1, l of f make of s, with the test t before each
  unfoldable pub iterate_down : (S → Bool) → (ℕ → S → S) → ℕ → ℕ → S → S
  iterate_down t f l zero s = s
  iterate_down t f l (suc k) s = elim (t s) [ true ↦ s | false ↦ iterate_down t f l k (f (l + k) s) ]

  module _ (t : S → Bool) (f : ℕ → S → S) (l : ℕ) where
    pub down_stop : (k : ℕ) (s : S) → t s ≡ true → iterate_down t f l k s ≡ s
    unfolding iterate_down
    down_stop zero s h = refl
    down_stop (suc k) s h = rw (h, iterate_down)

    pub down_step : (i : ℕ) (s : S) → l < i → t s ≡ false → iterate_down t f l (i - l) s ≡ iterate_down t f l (i - 1 - l) (f (i - 1) s)
    unfolding iterate_down
    down_step i s b h =
        let e : i - l ≡ suc (i - 1 - l) = omega arith in
        let g : l + (i - 1 - l) ≡ i - 1 = omega arith in
        rw (e, h, iterate_down, g)

    pub down_done : (i : ℕ) (s : S) → i ≤ l → iterate_down t f l (i - l) s ≡ s
    unfolding iterate_down
    down_done i s b = let e : i - l ≡ 0 = omega arith in rw e

  -- what holds of the state at the start and is kept by every turn holds at the end, for each kind of loop
  module _ (P : S → Type 0) where
    turns_keep : (f : ℕ → S → S) → ((j : ℕ) (t : S) → P t → P (f j t)) → (i k : ℕ) (s : S) → P s → P (turns f i k s)
    unfolding turns
    turns_keep f e i zero s h = h
    turns_keep f e i (suc k) s h = turns_keep f e (suc i) k (f i s) (e i s h)

    pub iterate_keeps : (f : ℕ → S → S) → ((j : ℕ) (t : S) → P t → P (f j t)) → (i n : ℕ) (s : S) → P s → P (iterate f i n s)
    unfolding iterate
    iterate_keeps f e i n s h = turns_keep f e i (n - i) s h

    pick : (b : Bool) {x y : S} → P x → P y → P (elim b [ true ↦ x | false ↦ y ])
    pick true h g = h
    pick false h g = g

    pub until_keeps : (t : S → Bool) (f : S → S) → ((s : S) → P s → P (f s)) → (k : ℕ) (s : S) → P s → P (iterate_until t f k s)
    unfolding iterate_until
    until_keeps t f e zero s h = h
    until_keeps t f e (suc k) s h = pick (t s) h (until_keeps t f e k (f s) (e s h))

    pub down_keeps : (t : S → Bool) (f : ℕ → S → S) → ((j : ℕ) (s : S) → P s → P (f j s)) → (l k : ℕ) (s : S) → P s → P (iterate_down t f l k s)
    unfolding iterate_down
    down_keeps t f e l zero s h = h
    down_keeps t f e l (suc k) s h = pick (t s) h (down_keeps t f e l k (f (l + k) s) (e (l + k) s h))
