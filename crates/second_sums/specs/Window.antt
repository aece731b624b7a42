-- P and its derivatives by latitude order by order: what is at hand of a row while it is gone through. Assumes nothing.
use Rattle.std.specs.Prelude.{◌≡◌, refl, cond, ℕ, zero, suc, ◌+◌, ◌-◌, ◌≤◌, ◌<◌, ltb, eqb, Float}
use Rattle.std.proofs.Common.{sym, ap, ap₂, ◌∙◌, ⊎_elim, eq-or-lt_of_le, arith}
use Rattle.std.specs.Float.Ieee.{neg}
use borrow.Author.Tests.{lt-ltb, le-ltb, eq-eqb, ne_eqb}
use Rattle.number.specs.Float64.{◌⊖◌, ◌⊗◌, zero64}
use Rattle.derivative.specs.Derivative.{half64, derived_row}

-- a row f of degree n, with 0 for the orders beyond the degree
unfoldable pub up_to : ℕ → (ℕ → Float) → ℕ → Float
up_to n f m = cond (ltb n m) zero64 (f m)

-- the derivative at order m of degree n by the weights w, from the numbers at the orders below and above, in the order of the code's tests
unfoldable pub derived_from : ℕ → (w : ℕ → Float) (m : ℕ) (below above : Float) → Float
derived_from n w m below above =
    cond (ltb m n)
    (cond (eqb m 0) (w m ⊗ above) (neg half64 ⊗ (w m ⊗ below ⊖ w (m + 1) ⊗ above)))
    (cond (ltb n m) zero64 (cond (eqb n 0) zero64 (neg half64 ⊗ (w n ⊗ below ⊖ zero64))))

pub up_to_within : (n : ℕ) (f : ℕ → Float) (m : ℕ) → m ≤ n → up_to n f m ≡ f m
unfolding up_to
up_to_within n f m h = simp (le-ltb n m h)

pub up_to_beyond : (n : ℕ) (f : ℕ → Float) (m : ℕ) → n < m → up_to n f m ≡ zero64
unfolding up_to
up_to_beyond n f m h = simp (lt-ltb n m h)

-- one law for each way through the tests
module _ (n : ℕ) (w : ℕ → Float) (m : ℕ) (below above : Float) where
  pub derived_zonal : m < n → m ≡ 0 → w m ⊗ above ≡ derived_from n w m below above
  unfolding derived_from
  derived_zonal h e = simp (lt-ltb m n h, eq-eqb m 0 e)

  pub derived_inner : m < n → (m ≡ 0 → ⊥) → neg half64 ⊗ (w m ⊗ below ⊖ w (m + 1) ⊗ above) ≡ derived_from n w m below above
  unfolding derived_from
  derived_inner h e = simp (lt-ltb m n h, ne_eqb m 0 e)

  pub derived_beyond : n < m → zero64 ≡ derived_from n w m below above
  unfolding derived_from
  derived_beyond h = simp (le-ltb m n (omega arith), lt-ltb n m h)

  pub derived_origin : m ≡ n → n ≡ 0 → zero64 ≡ derived_from n w m below above
  unfolding derived_from
  derived_origin h e = simp (le-ltb m n (omega arith), le-ltb n m (omega arith), eq-eqb n 0 e)

  pub derived_sectoral : m ≡ n → (n ≡ 0 → ⊥) → neg half64 ⊗ (w n ⊗ below ⊖ zero64) ≡ derived_from n w m below above
  unfolding derived_from
  derived_sectoral h e = simp (le-ltb m n (omega arith), le-ltb n m (omega arith), ne_eqb n 0 e)

-- it is that of the row, where the row's neighbours are given
derived_from_lem : (n : ℕ) (w f : ℕ → Float) (m : ℕ) {below above : Float} → m ≤ n → (1 ≤ m → below ≡ f (m - 1)) → (m < n → above ≡ f (m + 1))
    → derived_from n w m below above ≡ derived_row n w f m
unfolding derived_row
derived_from_lem n w f zero {below} {above} h eb ea =
    ⊎_elim
    (λ (e : zero ≡ n). sym (derived_origin n w zero below above e (sym e)) ∙ simp (eq-eqb n 0 (sym e)))
    (λ (g : zero < n). sym (derived_zonal n w zero below above g refl)
    ∙ simp (ne_eqb n 0 (λ e. omega arith)) (ap (λ (x : Float). w 0 ⊗ x) (ea g)))
    (eq-or-lt_of_le h)
derived_from_lem n w f (suc m) {below} {above} h eb ea =
    ⊎_elim
    (λ (e : suc m ≡ n). sym (derived_sectoral n w (suc m) below above e (λ z. omega arith))
    ∙ rw (← e)
    (simp (le-ltb (suc m) (suc m) (omega arith), ne_eqb (suc m) 0 (λ e. omega arith))
    (ap (λ (x : Float). neg half64 ⊗ (w (suc m) ⊗ x ⊖ zero64)) (eb (omega arith)))))
    (λ (g : suc m < n). sym (derived_inner n w (suc m) below above g (λ z. omega arith))
    ∙ simp (lt-ltb (suc m) n g, ne_eqb n 0 (λ e. omega arith), ne_eqb (suc m) 0 (λ e. omega arith))
    (ap₂ (λ (x y : Float). neg half64 ⊗ (w (suc m) ⊗ x ⊖ w (suc m + 1) ⊗ y)) (eb (omega arith)) (ea g)))
    (eq-or-lt_of_le h)

-- ---- at order m: P there and above, its derivative there and below
module _ (n : ℕ) (w p : ℕ → Float) where
  pub record Window (m : ℕ) (here above behind d : Float) : Type 0 where
    pub of_p : here ≡ up_to n p m
    pub of_above : above ≡ up_to n p (m + 1)
    pub of_d : d ≡ up_to n (derived_row n w p) m
    pub of_behind : 1 ≤ m → behind ≡ up_to n (derived_row n w p) (m - 1)

  -- one order on, with P two orders above
  ahead_is : (m : ℕ) {here beyond ahead : Float} → here ≡ up_to n p m → beyond ≡ up_to n p (m + 2) → ahead ≡ derived_from n w (m + 1) here beyond
      → m ≤ n → ahead ≡ up_to n (derived_row n w p) (m + 1)
  ahead_is m {here} {beyond} eh eb ea h =
      let back : m + 1 - 1 ≡ m = omega arith in
      let two : m + 1 + 1 ≡ m + 2 = omega arith in
      ⊎_elim
      (λ (e : m ≡ n). ea
      ∙ sym (derived_beyond n w (m + 1) here beyond (omega arith))
      ∙ sym (up_to_beyond n (derived_row n w p) (m + 1) (omega arith)))
      (λ (g : m < n). ea
      ∙ derived_from_lem n w p (m + 1) (omega arith)
      (λ k. eh ∙ up_to_within n p m h ∙ ap p (sym back))
      (λ k. eb ∙ up_to_within n p (m + 2) (omega arith) ∙ ap p (sym two))
      ∙ sym (up_to_within n (derived_row n w p) (m + 1) (omega arith)))
      (eq-or-lt_of_le h)

  pub window_start : {here above d : Float} (any : Float) → here ≡ up_to n p 0 → above ≡ up_to n p 1 → d ≡ derived_from n w 0 any above
      → Window 0 here above any d
  window_start {above = above} any eh ea ed = record {
    of_p = eh;
    of_above = ea;
    of_d =
        ed
        ∙ derived_from_lem n w p 0 (omega arith) (λ k. absurd (omega arith)) (λ k. ea ∙ up_to_within n p 1 k)
        ∙ sym (up_to_within n (derived_row n w p) 0 (omega arith));
    of_behind = λ k. absurd (omega arith);
  }

  pub window_more : (m : ℕ) {here above behind d beyond ahead : Float} → Window m here above behind d → beyond ≡ up_to n p (m + 2)
      → ahead ≡ derived_from n w (m + 1) here beyond → m ≤ n → Window (m + 1) above beyond d ahead
  window_more m k eb ea h =
      let back : m + 1 - 1 ≡ m = omega arith in
      let two : m + 1 + 1 ≡ m + 2 = omega arith in
      record {
        of_p = k.of_above;
        of_above = eb ∙ ap (up_to n p) (sym two);
        of_d = ahead_is m k.of_p eb ea h;
        of_behind = λ g. k.of_d ∙ ap (up_to n (derived_row n w p)) (sym back);
      }

  -- P, its derivative and its second derivative at order m
  pub window_here : (m : ℕ) {here above behind d : Float} → Window m here above behind d → m ≤ n → here ≡ p m
  window_here m k h = k.of_p ∙ up_to_within n p m h

  pub window_first : (m : ℕ) {here above behind d : Float} → Window m here above behind d → m ≤ n → d ≡ derived_row n w p m
  window_first m k h = k.of_d ∙ up_to_within n (derived_row n w p) m h

  pub window_second : (m : ℕ) {here above behind d beyond ahead dd : Float} → Window m here above behind d → beyond ≡ up_to n p (m + 2)
      → ahead ≡ derived_from n w (m + 1) here beyond → dd ≡ derived_from n w m behind ahead → m ≤ n → dd ≡ derived_row n w (derived_row n w p) m
  window_second m k eb ea ed h =
      ed
      ∙ derived_from_lem n w (derived_row n w p) m h
      (λ g. k.of_behind g ∙ up_to_within n (derived_row n w p) (m - 1) (omega arith))
      (λ g. ahead_is m k.of_p eb ea h ∙ up_to_within n (derived_row n w p) (m + 1) (omega arith))
