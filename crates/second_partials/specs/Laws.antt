-- A point of `second_partials_along` is what `second_partials` answers for it alone, bit by bit; and of the first derivatives that it gives, V and
-- ∂V/∂φ are those of `partials`. Assumes nothing.
use Rattle.std.specs.Prelude.{◌≡◌, List, ℕ, ◌+◌, ◌≤◌, ◌<◌, length, Float, Err, Ok, Result, ⊤}
use Rattle.std.proofs.Math.Path.{refl, sym, ap}
use Rattle.std.proofs.Common.{◌∙◌, arith}
use Rattle.number.specs.Float64.{◌⊘◌}
use Rattle.legendre.specs.Directions.{cosines, sines}
use Rattle.local.specs.declared.Partials.{Partials}
use Rattle.local.specs.declared.SecondPartials.{SecondPartials}
use Rattle.local.specs.Point.{even_row, degree_sum, partials_of, point_at}
use Rattle.local.specs.Second.{across_row, curve_row, falling, falling_twice, second_of, second_at, second_check}
use Rattle.point_sums.specs.Sums.{even_same, degree_same}
use Rattle.second_sums.specs.Sums.{across_same, curve_same}
use Rattle.point_lists.specs.Checks.{Accepted}
use Rattle.point_lists.specs.Alone.{own_trig, own_cosine, own_sine, own_passed}
use Rattle.refusal.specs.declared.Refusal.{Refusal}
use Rattle.refusal.specs.Numbers.{value_if}

-- a point depends on the cosines and sines of the orders up to N alone
module _ (gm radius r : Float) (P dP ddP c s : ℕ → ℕ → Float) (cos cos' sin sin' : ℕ → Float) (N : ℕ) (ec : (m : ℕ) → m ≤ N → cos m ≡ cos' m)
    (es : (m : ℕ) → m ≤ N → sin m ≡ sin' m) where
  evens : (F : ℕ → ℕ → Float) (n : ℕ) → n < N + 1 → even_row F c s cos sin n ≡ even_row F c s cos' sin' n
  unfolding even_row
  evens F n h = even_same (c n) (s n) n (λ m g. refl) (λ m g. ec m (omega arith)) (λ m g. es m (omega arith))

  acrosses : (F : ℕ → ℕ → Float) (n : ℕ) → n < N + 1 → across_row F c s cos sin n ≡ across_row F c s cos' sin' n
  unfolding across_row
  acrosses F n h = across_same (c n) (s n) n (λ m g. refl) (λ m g. ec m (omega arith)) (λ m g. es m (omega arith))

  curves : (n : ℕ) → n < N + 1 → curve_row P c s cos sin n ≡ curve_row P c s cos' sin' n
  unfolding curve_row
  curves n h = curve_same (c n) (s n) n (λ m g. refl) (λ m g. ec m (omega arith)) (λ m g. es m (omega arith))

  sum_same : (row row' : ℕ → Float) → ((n : ℕ) → n < N + 1 → row n ≡ row' n) → degree_sum (radius ⊘ r) row (N + 1) ≡ degree_sum (radius ⊘ r) row' (N + 1)
  sum_same row row' e = degree_same (radius ⊘ r) row row' (N + 1) e

  falls : (row row' : ℕ → Float) → ((n : ℕ) → n < N + 1 → row n ≡ row' n) → (n : ℕ) → n < N + 1 → falling row n ≡ falling row' n
  unfolding falling
  falls row row' e n h = let x = e n h in cc

  falls_twice : (row row' : ℕ → Float) → ((n : ℕ) → n < N + 1 → row n ≡ row' n) → (n : ℕ) → n < N + 1 → falling_twice row n ≡ falling_twice row' n
  unfolding falling_twice
  falls_twice row row' e n h = let x = e n h in cc

  second_same : second_of gm radius r P dP ddP c s cos sin N ≡ second_of gm radius r P dP ddP c s cos' sin' N
  unfolding second_of
  second_same =
      let v = sum_same _ _ (evens P) in
      let dr = sum_same _ _ (falls _ _ (evens P)) in
      let dlat = sum_same _ _ (evens dP) in
      let dlon = sum_same _ _ (acrosses P) in
      let drr = sum_same _ _ (falls_twice _ _ (evens P)) in
      let dlatlat = sum_same _ _ (evens ddP) in
      let dlonlon = sum_same _ _ curves in
      let drlat = sum_same _ _ (falls _ _ (evens dP)) in
      let drlon = sum_same _ _ (falls _ _ (acrosses P)) in
      let dlatlon = sum_same _ _ (acrosses dP) in
      rw (v, dr, dlat, dlon, drr, dlatlat, dlonlon, drlat, drlon, dlatlon) refl

module _ (N i : ℕ) (trig : List Float) (gm radius : Float) (c s : List Float) (r t u : Float) where
  pub second_alone : second_at gm radius N c s (own_trig N i trig) 0 r t u ≡ second_at gm radius N c s trig i r t u
  unfolding second_at
  second_alone =
      second_same gm radius r _ _ _ _ _ (cosines (own_trig N i trig) N 0) (cosines trig N i) (sines (own_trig N i trig) N 0) (sines trig N i) N
      (own_cosine N i trig) (own_sine N i trig)

  -- where `second_partials_along` is done, `second_partials` answers so for each of its points
  pub answer_alone : (points radii lats work out : ℕ) → Accepted 5 10 N (length c) (length s) points radii lats (length trig) work out → i < points
      → value_if (second_check N (length c) (length s) (length (own_trig N i trig)) work) (second_at gm radius N c s (own_trig N i trig) 0 r t u)
      ≡ Ok (second_at gm radius N c s trig i r t u)
  answer_alone points radii lats work out k h =
      let done = own_passed N i trig 5 10 (length c) (length s) points radii lats work out k h in
      ap (λ (y : Result ⊤ Refusal). value_if y (second_at gm radius N c s (own_trig N i trig) 0 r t u)) (sym done) ∙ ap Ok second_alone

-- what an answer gives, or else a point that is at hand
given_first : Partials → Result Partials Refusal → Partials
given_first d (Ok p) = p
given_first d (Err e) = d

given_first_lem : (x : Result ⊤ Refusal) (p : Partials) → given_first p (value_if x p) ≡ p
unfolding given_first
given_first_lem (Ok _) p = refl
given_first_lem (Err e) p = refl

given_second : SecondPartials → Result SecondPartials Refusal → SecondPartials
given_second d (Ok p) = p
given_second d (Err e) = d

given_second_lem : (y : Result ⊤ Refusal) (p : SecondPartials) → given_second p (value_if y p) ≡ p
unfolding given_second
given_second_lem (Ok _) p = refl
given_second_lem (Err e) p = refl

-- ---- V and ∂V/∂φ are those of `partials`: their sums have one order of operations. Those of ∂V/∂r and ∂V/∂λ have not
module _ (gm radius : Float) (N : ℕ) (c s trig : List Float) (i : ℕ) (r t u : Float) where
  pub same_v : (second_at gm radius N c s trig i r t u).first.v ≡ (point_at gm radius N c s trig i r t u).v
  unfolding second_at second_of point_at partials_of
  same_v = refl

  pub same_dlat : (second_at gm radius N c s trig i r t u).first.dlat ≡ (point_at gm radius N c s trig i r t u).dlat
  unfolding second_at second_of point_at partials_of
  same_dlat = refl

  -- so on what the two calls answer
  pub same_answered : (x y : Result ⊤ Refusal) {p : Partials} {q : SecondPartials} → Ok p ≡ value_if x (point_at gm radius N c s trig i r t u)
      → Ok q ≡ value_if y (second_at gm radius N c s trig i r t u) → (q.first.v ≡ p.v) × (q.first.dlat ≡ p.dlat)
  unfolding given_first given_second
  same_answered x y ep eq =
      let first = point_at gm radius N c s trig i r t u in
      let second = second_at gm radius N c s trig i r t u in
      let p = ap (given_first first) ep ∙ given_first_lem x first in
      let q = ap (given_second second) eq ∙ given_second_lem y second in (
        ap (λ (z : SecondPartials). z.first.v) q ∙ same_v ∙ sym (ap (λ (z : Partials). z.v) p),
        ap (λ (z : SecondPartials). z.first.dlat) q ∙ same_dlat ∙ sym (ap (λ (z : Partials). z.dlat) p),
      )
