-- A point of `partials_along` is what `partials` answers for it alone, bit by bit. Assumes nothing.
use Rattle.std.specs.Prelude.{◌≡◌, refl, List, ℕ, zero, suc, ◌+◌, ◌≤◌, ◌<◌, length, Float, Ok, Result, ⊤}
use Rattle.std.proofs.Common.{sym, ap, ap₂, ◌∙◌, arith}
use Rattle.number.specs.Float64.{◌⊖◌, ◌⊗◌, ◌⊘◌, of_whole}
use Rattle.legendre.specs.Directions.{cosines, sines}
use Rattle.local.specs.Point.{even_row, east_row, running_power, radial_sum, partials_of, point_at, partials_check}
use Rattle.point_sums.specs.Sums.{even_same, east_same, degree_same}
use Rattle.point_lists.specs.Checks.{Accepted}
use Rattle.point_lists.specs.Alone.{own_trig, own_cosine, own_sine, own_passed}
use Rattle.refusal.specs.declared.Refusal.{Refusal}
use Rattle.refusal.specs.Numbers.{value_if}

-- rows that agree in the degrees below k have the same sum by radius
radial_same : (q : Float) (row row' : ℕ → Float) (k : ℕ) → ((n : ℕ) → n < k → row n ≡ row' n) → radial_sum q row k ≡ radial_sum q row' k
unfolding radial_sum
radial_same q row row' zero e = refl
radial_same q row row' (suc n) e =
    ap₂ (λ (x y : Float). x ⊖ of_whole (n + 1) ⊗ running_power q n ⊗ y) (radial_same q row row' n (λ i h. e i (omega arith))) (e n (omega arith))

-- a point depends on the cosines and sines of the orders up to N alone
partials_same : (gm radius r : Float) (P dP c s : ℕ → ℕ → Float) (cos cos' sin sin' : ℕ → Float) (N : ℕ) → ((m : ℕ) → m ≤ N → cos m ≡ cos' m)
    → ((m : ℕ) → m ≤ N → sin m ≡ sin' m) → partials_of gm radius r P dP c s cos sin N ≡ partials_of gm radius r P dP c s cos' sin' N
unfolding partials_of even_row east_row
partials_same gm radius r P dP c s cos cos' sin sin' N ec es =
    let q = radius ⊘ r in
    let even : (F : ℕ → ℕ → Float) (n : ℕ) → n < N + 1 → even_row F c s cos sin n ≡ even_row F c s cos' sin' n =
    λ F n h. even_same (c n) (s n) n (λ m g. refl) (λ m g. ec m (omega arith)) (λ m g. es m (omega arith)) in
    let east : (n : ℕ) → n < N + 1 → east_row P c s cos sin n ≡ east_row P c s cos' sin' n =
    λ n h. east_same (c n) (s n) n (λ m g. refl) (λ m g. ec m (omega arith)) (λ m g. es m (omega arith)) in
    let v = degree_same q (even_row P c s cos sin) (even_row P c s cos' sin') (N + 1) (even P) in
    let dr = radial_same q (even_row P c s cos sin) (even_row P c s cos' sin') (N + 1) (even P) in
    let dlat = degree_same q (even_row dP c s cos sin) (even_row dP c s cos' sin') (N + 1) (even dP) in
    let dlon = degree_same q (east_row P c s cos sin) (east_row P c s cos' sin') (N + 1) east in
    rw (v, dr, dlat, dlon) refl

module _ (N i : ℕ) (trig : List Float) (gm radius : Float) (c s : List Float) (r t u : Float) where
  pub point_alone : point_at gm radius N c s (own_trig N i trig) 0 r t u ≡ point_at gm radius N c s trig i r t u
  unfolding point_at
  point_alone =
      partials_same gm radius r _ _ _ _ (cosines (own_trig N i trig) N 0) (cosines trig N i) (sines (own_trig N i trig) N 0) (sines trig N i) N
      (own_cosine N i trig) (own_sine N i trig)

  -- where `partials_along` is done, `partials` answers so for each of its points
  pub answer_alone : (points radii lats work out : ℕ) → Accepted 4 4 N (length c) (length s) points radii lats (length trig) work out → i < points
      → value_if (partials_check N (length c) (length s) (length (own_trig N i trig)) work) (point_at gm radius N c s (own_trig N i trig) 0 r t u)
      ≡ Ok (point_at gm radius N c s trig i r t u)
  answer_alone points radii lats work out k h =
      let done = own_passed N i trig 4 4 (length c) (length s) points radii lats work out k h in
      ap (λ (y : Result ⊤ Refusal). value_if y (point_at gm radius N c s (own_trig N i trig) 0 r t u)) (sym done) ∙ ap Ok point_alone
