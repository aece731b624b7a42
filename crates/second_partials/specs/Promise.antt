-- The point as its sums make it, the output of a call point by point, and its answer for one point. Assumes nothing.
use Rattle.std.specs.Prelude.{◌≡◌, List, [], ◌∷◌, ℕ, ◌+◌, ◌*◌, ◌≤◌, ◌<◌, length, Float, Err, Ok, Result, ⊤}
use Rattle.std.proofs.Common.{ap, ◌∙◌, arith}
use Rattle.std.proofs.Math.ListN.{get_or}
use Rattle.std.specs.Float.Ieee.{nan}
use Rattle.refusal.specs.declared.Refusal.{Refusal}
use Rattle.number.specs.Float64.{◌⊗◌, ◌⊘◌}
use Rattle.storage.specs.Filled.{Filled, filled_same}
use Rattle.storage.specs.Triangle.{table_size}
use Rattle.legendre.specs.Directions.{row_sine, row_cosine, cosines, sines}
use Rattle.local.specs.declared.SecondPartials.{SecondPartials}
use Rattle.local.specs.Second.{second_of, second_at, second_component, second_cell}
use Rattle.point_lists.specs.Made.{Made, made_one}
use Rattle.point_sums.specs.Sums.{cosine_from, sine_from}
use Rattle.second_sums.specs.declared.SecondSums.{SecondSums}
use Rattle.second_sums.specs.Sums.{sums_below, second_sums}
use Rattle.refusal.specs.Numbers.{value_if}

-- by their lengths, the lists beside the working list have room for the degrees and orders up to N
pub record FieldRoom (N c s rows : ℕ) : Type 0 where
  pub top : N ≤ 2700
  pub of_c : table_size N ≤ c
  pub of_s : table_size N ≤ s
  pub of_rows : N + N < rows

-- the point, from its sums over all degrees: the last multiplications
abbrev second_from : (gm r : Float) → SecondSums → SecondPartials
second_from gm r x = record {
  first = record { v = gm ⊘ r ⊗ x.v; dr = gm ⊘ r ⊘ r ⊗ x.dr; dlat = gm ⊘ r ⊗ x.dlat; dlon = gm ⊘ r ⊗ x.dlon };
  drr = gm ⊘ r ⊘ (r ⊗ r) ⊗ x.drr;
  dlatlat = gm ⊘ r ⊗ x.dlatlat;
  dlonlon = gm ⊘ r ⊗ x.dlonlon;
  drlat = gm ⊘ r ⊘ r ⊗ x.drlat;
  drlon = gm ⊘ r ⊘ r ⊗ x.drlon;
  dlatlon = gm ⊘ r ⊗ x.dlatlon;
}

pub point_is : (gm radius r t u : Float) (N i k : ℕ) (c s trig : List Float) {x : SecondSums} → k ≡ i * (N + N + 2)
    → x ≡ second_sums (radius ⊘ r) t u k c s trig (N + 1)
    → second_from gm r x ≡ second_at gm radius N c s trig i r t u
unfolding second_at second_of sums_below cosine_from sine_from cosines sines
point_is gm radius r t u N i k c s trig {x} ek ex =
    ap (second_from gm r) ex ∙ ap (λ (j : ℕ). second_from gm r (second_sums (radius ⊘ r) t u j c s trig (N + 1))) ek

-- the ten numbers of a point are its part of the output
pub second_row : (gm radius : Float) (N : ℕ) (c s trig radii lats : List Float) (i : ℕ) {r t u : Float} {x : SecondPartials} {at : ℕ} {o o' : List Float}
    → r ≡ get_or radii i nan → t ≡ row_sine lats i → u ≡ row_cosine lats i → x ≡ second_at gm radius N c s trig i r t u
    → Filled at (second_component x) 10 o o' → Filled at (second_cell gm radius N c s trig radii lats i) 10 o o'
unfolding second_cell
second_row gm radius N c s trig radii lats i er et eu ex f =
    filled_same (second_cell gm radius N c s trig radii lats i) f
    (λ j h. ap (λ (y : SecondPartials). second_component y j) (rw (er, et, eu) at ex))

-- ---- the answer for one point
module _ {a : Result ⊤ Refusal} where
  pub second_refused : (e : Refusal) (p : SecondPartials) → Err e ≡ a → Err e ≡ value_if a p
  second_refused e p h = ap (λ (y : Result ⊤ Refusal). value_if y p) h

  -- the ten numbers of a list of one point
  pub one_second : (gm radius : Float) (N : ℕ) (c s trig : List Float) (r t u : Float) {front : ℕ} {w w' o o' : List Float} → Ok tt ≡ a
      → Made (second_cell gm radius N c s trig (r ∷ []) (t ∷ (u ∷ []))) 10 front 1 w w' o o' → 10 ≤ length o
      → Ok (record {
        first = record { v = get_or o' 0 nan; dr = get_or o' 1 nan; dlat = get_or o' 2 nan; dlon = get_or o' 3 nan };
        drr = get_or o' 4 nan;
        dlatlat = get_or o' 5 nan;
        dlonlon = get_or o' 6 nan;
        drlat = get_or o' 7 nan;
        drlon = get_or o' 8 nan;
        dlatlon = get_or o' 9 nan;
      })
      ≡ value_if a (second_at gm radius N c s trig 0 r t u)
  unfolding second_cell second_component row_sine row_cosine
  one_second gm radius N c s trig r t u {o' = o'} h made room =
      let p = second_at gm radius N c s trig 0 r t u in
      let number = made_one made room in
      let v : get_or o' 0 nan ≡ p.first.v = number 0 (omega arith) in
      let dr : get_or o' 1 nan ≡ p.first.dr = number 1 (omega arith) in
      let dlat : get_or o' 2 nan ≡ p.first.dlat = number 2 (omega arith) in
      let dlon : get_or o' 3 nan ≡ p.first.dlon = number 3 (omega arith) in
      let drr : get_or o' 4 nan ≡ p.drr = number 4 (omega arith) in
      let dlatlat : get_or o' 5 nan ≡ p.dlatlat = number 5 (omega arith) in
      let dlonlon : get_or o' 6 nan ≡ p.dlonlon = number 6 (omega arith) in
      let drlat : get_or o' 7 nan ≡ p.drlat = number 7 (omega arith) in
      let drlon : get_or o' 8 nan ≡ p.drlon = number 8 (omega arith) in
      let dlatlon : get_or o' 9 nan ≡ p.dlatlon = number 9 (omega arith) in
      rw (v, dr, dlat, dlon, drr, dlatlat, dlonlon, drlat, drlon, dlatlon) (ap (λ (y : Result ⊤ Refusal). value_if y p) h)
