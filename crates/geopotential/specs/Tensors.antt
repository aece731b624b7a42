-- The entries for second derivatives at points, and for the tensor. Assumes nothing.
use Rattle.std.specs.Prelude.{◌≡◌, List, [], ◌∷◌, ℕ, ◌*◌, Float, Result, ⊤}
use Rattle.storage.specs.Fill.{fill}
use Rattle.storage.specs.Rectangle.{by_rows}
use Rattle.legendre.specs.Directions.{row_sine, row_cosine}
use Rattle.local.specs.declared.SecondPartials.{SecondPartials}
use Rattle.local.specs.Second.{second_at, second_component, second_cell}
use Rattle.geopotential.specs.Points.{out_check, numbers_check, four, one_row}
use Rattle.refusal.specs.declared.Refusal.{Refusal}

-- the checks of one point, and SPACE for its ten numbers
abbrev pub ten_check : (nmax clen slen trig work out : ℕ) → Result ⊤ Refusal
ten_check = numbers_check 5 10

-- SPACE for the nine of a tensor
abbrev pub nine_check : ℕ → Result ⊤ Refusal
nine_check = out_check 9

abbrev pub ten : (v dr dlat dlon drr dlatlat dlonlon drlat drlon dlatlon : Float) → SecondPartials
ten v dr dlat dlon drr dlatlat dlonlon drlat drlon dlatlon = record {
  first = four v dr dlat dlon;
  drr = drr;
  dlatlat = dlatlat;
  dlonlon = dlonlon;
  drlat = drlat;
  drlon = drlon;
  dlatlon = dlatlon;
}

-- one point is a list of one
module _ (gm radius : Float) (N : ℕ) (c s trig : List Float) (r t u : Float) where
  pub one_second : (out : List Float) → fill 0 (by_rows (second_cell gm radius N c s trig (r ∷ []) (t ∷ u ∷ [])) 10) (1 * 10) out
      ≡ fill 0 (second_component (second_at gm radius N c s trig 0 r t u)) 10 out
  unfolding second_cell row_sine row_cosine
  one_second = one_row (second_cell gm radius N c s trig (r ∷ []) (t ∷ u ∷ [])) 10
