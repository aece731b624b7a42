-- The output of a call, point by point, and its answer for one point. Assumes nothing.
use Rattle.std.specs.Prelude.{◌≡◌, List, [], ◌∷◌, ℕ, ◌≤◌, length, Float, Err, Ok, Result, ⊤}
use Rattle.std.proofs.Common.{ap, arith}
use Rattle.std.proofs.Math.ListN.{get_or}
use Rattle.std.specs.Float.Ieee.{nan}
use Rattle.refusal.specs.declared.Refusal.{Refusal}
use Rattle.storage.specs.Filled.{Filled, filled_same}
use Rattle.legendre.specs.Directions.{row_sine, row_cosine}
use Rattle.local.specs.declared.Partials.{Partials}
use Rattle.local.specs.Point.{point_at, component, along_cell}
use Rattle.point_lists.specs.Made.{Made, made_one}
use Rattle.refusal.specs.Numbers.{value_if}

-- the four numbers of a point are its part of the output
pub along-row : (gm radius : Float) (N : ℕ) (c s trig radii lats : List Float) (i : ℕ) {r t u : Float} {x : Partials} {at : ℕ} {o o' : List Float}
    → r ≡ get_or radii i nan → t ≡ row_sine lats i → u ≡ row_cosine lats i → x ≡ point_at gm radius N c s trig i r t u
    → Filled at (component x) 4 o o' → Filled at (along_cell gm radius N c s trig radii lats i) 4 o o'
unfolding along_cell
along-row gm radius N c s trig radii lats i er et eu ex f =
    filled_same (along_cell gm radius N c s trig radii lats i) f
    (λ j h. ap (λ (y : Partials). component y j) (rw (er, et, eu) at ex))

-- ---- the answer for one point
module _ {a : Result ⊤ Refusal} where
  pub point_refused : (e : Refusal) (p : Partials) → Err e ≡ a → Err e ≡ value_if a p
  point_refused e p h = ap (λ (y : Result ⊤ Refusal). value_if y p) h

  -- the four numbers of a list of one point
  pub one_point : (gm radius : Float) (N : ℕ) (c s trig : List Float) (r t u : Float) {front : ℕ} {w w' o o' : List Float} → Ok tt ≡ a
      → Made (along_cell gm radius N c s trig (r ∷ []) (t ∷ (u ∷ []))) 4 front 1 w w' o o' → 4 ≤ length o
      → Ok (record { v = get_or o' 0 nan; dr = get_or o' 1 nan; dlat = get_or o' 2 nan; dlon = get_or o' 3 nan }) ≡ value_if a (point_at gm radius N c s trig 0 r t u)
  unfolding along_cell component row_sine row_cosine
  one_point gm radius N c s trig r t u {o' = o'} h made room =
      let p = point_at gm radius N c s trig 0 r t u in
      let number = made_one made room in
      let v : get_or o' 0 nan ≡ p.v = number 0 (omega arith) in
      let dr : get_or o' 1 nan ≡ p.dr = number 1 (omega arith) in
      let dlat : get_or o' 2 nan ≡ p.dlat = number 2 (omega arith) in
      let dlon : get_or o' 3 nan ≡ p.dlon = number 3 (omega arith) in
      rw (v, dr, dlat, dlon) (ap (λ (y : Result ⊤ Refusal). value_if y p) h)
