-- The potential V of a field with its first and second partial derivatives at points, in the order of the Rust's operations; the tensor that they
-- make; and the checks of the calls. Definitions only.
use Rattle.std.specs.Prelude.{List, [], ◌∷◌, ℕ, zero, suc, ◌+◌, ◌*◌, get_or, Float, Result, ⊤}
use Rattle.std.specs.Float.{nan}
use Rattle.std.specs.Float.Ieee.{neg}
use Rattle.number.specs.Float64.{◌⊕◌, ◌⊖◌, ◌⊗◌, ◌⊘◌, of_whole, one64}
use Rattle.storage.specs.Triangle.{table_size, cells, along}
use Rattle.recursion.specs.Recursion.{a_cell, b_cell, p_cell}
use Rattle.derivative.specs.Derivative.{dp_cell, ddp_cell}
use Rattle.legendre.specs.Directions.{row_sine, row_cosine, cosines, sines}
use Rattle.rounding.specs.Sums.{zero⁺}
use Rattle.local.specs.declared.SecondPartials.{SecondPartials}
use Rattle.local.specs.Point.{even_row, order_sum, degree_sum, point_check_of, along_check_of}
use Rattle.refusal.specs.declared.Refusal.{Refusal}

-- ---- one degree: its rows of P, or of a derivative of P by latitude, and of C and S as functions of the order m, with the cosine and the sine
-- of mλ; P (C cos mλ + S sin mλ) is `even_term`
-- P m (S cos mλ - C sin mλ), the derivative of that by longitude; here m is multiplied first, not P as in `east_term`
unfoldable pub across_term : (p c s cos sin : ℕ → Float) → ℕ → Float
across_term p c s cos sin m = p m ⊗ (of_whole m ⊗ (s m ⊗ cos m ⊖ c m ⊗ sin m))

-- P m² (C cos mλ + S sin mλ), which the second derivative by longitude loses
unfoldable pub curve_term : (p c s cos sin : ℕ → Float) → ℕ → Float
curve_term p c s cos sin m = p m ⊗ of_whole m ⊗ of_whole m ⊗ (c m ⊗ cos m ⊕ s m ⊗ sin m)

-- the terms below k subtracted order by order from +0.0
unfoldable pub running_loss : (ℕ → Float) → ℕ → Float
running_loss term zero = zero⁺
running_loss term (suc m) = running_loss term m ⊖ term m

unfoldable pub order_loss : (ℕ → Float) → ℕ → Float
order_loss term n = running_loss term (n + 1)

-- those sums for each degree n of a field
unfoldable pub across_row : (P c s : ℕ → ℕ → Float) (cos sin : ℕ → Float) → ℕ → Float
across_row P c s cos sin n = order_sum (across_term (P n) (c n) (s n) cos sin) n

unfoldable pub curve_row : (P c s : ℕ → ℕ → Float) (cos sin : ℕ → Float) → ℕ → Float
curve_row P c s cos sin n = order_loss (curve_term (P n) (c n) (s n) cos sin) n

-- a degree's part in the first and in the second derivative by radius: r^-(n + 1) gives -(n + 1), then (n + 1)(n + 2)
unfoldable pub falling : (ℕ → Float) → ℕ → Float
falling row n = neg (of_whole (n + 1)) ⊗ row n

unfoldable pub falling_twice : (ℕ → Float) → ℕ → Float
falling_twice row n = of_whole ((n + 1) * (n + 2)) ⊗ row n

-- ---- one point
-- V with its derivatives, from P and its first and second derivatives dP and ddP by latitude
unfoldable pub second_of : (gm radius r : Float) (P dP ddP c s : ℕ → ℕ → Float) (cos sin : ℕ → Float) (N : ℕ) → SecondPartials
second_of gm radius r P dP ddP c s cos sin N =
    let sum : (ℕ → Float) → Float = λ row. degree_sum (radius ⊘ r) row (N + 1) in
    let even = even_row P c s cos sin in
    let north = even_row dP c s cos sin in
    let east = across_row P c s cos sin in
    record {
      first = record {
        v = gm ⊘ r ⊗ sum even;
        dr = gm ⊘ r ⊘ r ⊗ sum (falling even);
        dlat = gm ⊘ r ⊗ sum north;
        dlon = gm ⊘ r ⊗ sum east;
      };
      drr = gm ⊘ r ⊘ (r ⊗ r) ⊗ sum (falling_twice even);
      dlatlat = gm ⊘ r ⊗ sum (even_row ddP c s cos sin);
      dlonlon = gm ⊘ r ⊗ sum (curve_row P c s cos sin);
      drlat = gm ⊘ r ⊘ r ⊗ sum (falling north);
      drlon = gm ⊘ r ⊘ r ⊗ sum (falling east);
      dlatlon = gm ⊘ r ⊗ sum (across_row dP c s cos sin);
    }

-- at radius r and the latitude with the sine t and the cosine u, with the recursion coefficients that `Legendre::new` has; the cosines and sines
-- of the longitude's multiples are those of point i in the list trig
unfoldable pub second_at : (gm radius : Float) (N : ℕ) (c s trig : List Float) (i : ℕ) (r t u : Float) → SecondPartials
second_at gm radius N c s trig i r t u =
    second_of gm radius r (p_cell (along a_cell) (along b_cell) t u) (dp_cell (along a_cell) (along b_cell) t u) (ddp_cell (along a_cell) (along b_cell) t u)
    (cells c nan) (cells s nan) (cosines trig N i) (sines trig N i) N

-- ---- the tensor: the second derivatives of V along north, east and up, row by row, at radius r and the latitude with the sine t and the cosine
-- u. 1 / cos φ and tan φ are 1 / u and t / u
abbrev pub tensor_of : SecondPartials → (r t u : Float) → List (List Float)
tensor_of p r t u =
    let sec = one64 ⊘ u in
    let tan = t ⊘ u in
    let vr = p.first.dr in
    let vlat = p.first.dlat in
    let vlon = p.first.dlon in
    let nn = vr ⊘ r ⊕ p.dlatlat ⊘ (r ⊗ r) in
    let ee = vr ⊘ r ⊖ tan ⊗ vlat ⊘ (r ⊗ r) ⊕ p.dlonlon ⊗ sec ⊗ sec ⊘ (r ⊗ r) in
    let nu = (p.drlat ⊖ vlat ⊘ r) ⊘ r in
    let eu = (p.drlon ⊖ vlon ⊘ r) ⊗ sec ⊘ r in
    let ne = (p.dlatlon ⊕ tan ⊗ vlon) ⊗ sec ⊘ (r ⊗ r) in
    (nn ∷ ne ∷ nu ∷ []) ∷ (ne ∷ ee ∷ eu ∷ []) ∷ (nu ∷ eu ∷ p.drr ∷ []) ∷ []

-- the entry in row i and column j of a tensor
unfoldable pub tensor_cell : List (List Float) → ℕ → ℕ → Float
tensor_cell g i j = get_or (get_or g i []) j nan

-- ---- many points, ten numbers each: V, ∂V/∂r, ∂V/∂φ, ∂V/∂λ, then ∂²V by rr, φφ, λλ, rφ, rλ, φλ
unfoldable pub second_component : SecondPartials → ℕ → Float
second_component p zero = p.first.v
second_component p (suc zero) = p.first.dr
second_component p (suc (suc zero)) = p.first.dlat
second_component p (suc (suc (suc zero))) = p.first.dlon
second_component p (suc (suc (suc (suc zero)))) = p.drr
second_component p (suc (suc (suc (suc (suc zero))))) = p.dlatlat
second_component p (suc (suc (suc (suc (suc (suc zero)))))) = p.dlonlon
second_component p (suc (suc (suc (suc (suc (suc (suc zero))))))) = p.drlat
second_component p (suc (suc (suc (suc (suc (suc (suc (suc zero)))))))) = p.drlon
second_component p (suc (suc (suc (suc (suc (suc (suc (suc (suc j))))))))) = p.dlatlon

unfoldable pub second_cell : (gm radius : Float) (N : ℕ) (c s trig radii lats : List Float) (i j : ℕ) → Float
second_cell gm radius N c s trig radii lats i =
    second_component (second_at gm radius N c s trig i (get_or radii i nan) (row_sine lats i) (row_cosine lats i))

-- ---- the checks
-- how many numbers of the working list a call may use: 5T
abbrev pub second_size : ℕ → ℕ
second_size N = 5 * table_size N

-- SIZE, LENGTH and SPACE as for the first derivatives, with that size, and ten numbers a point
abbrev pub second_check : (nmax clen slen trig work : ℕ) → Result ⊤ Refusal
second_check = point_check_of 5

abbrev pub second_along_check : (nmax clen slen points radii lats trig work out : ℕ) → Result ⊤ Refusal
second_along_check = along_check_of 5 10
