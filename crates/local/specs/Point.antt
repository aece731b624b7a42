-- The potential V of a field and its first partial derivatives at points, in the order of the Rust's operations, and the checks of the calls.
-- Definitions only.
use Rattle.std.specs.Prelude.{not, List, ℕ, zero, suc, ◌+◌, ◌*◌, ltb, eqb, get_or, Float, Ok, Result, ⊤}
use Rattle.std.specs.Float.{nan, binary64}
use Rattle.refusal.specs.Numbers.{refuse, ◌and_then◌}
use Rattle.refusal.specs.declared.Refusal.TheVariants.{Size, Length, Space}
use Rattle.number.specs.Float64.{◌⊕◌, ◌⊖◌, ◌⊗◌, ◌⊘◌, of_whole, one64}
use Rattle.storage.specs.Checks.{tables_check}
use Rattle.storage.specs.Triangle.{table_size, cells, along}
use Rattle.recursion.specs.Recursion.{a_cell, b_cell, p_cell}
use Rattle.derivative.specs.Derivative.{dp_cell}
use Rattle.legendre.specs.Directions.{row_sine, row_cosine, cosines, sines}
use Rattle.rounding.specs.Sums.{zero⁺, running_sum}
use Rattle.local.specs.declared.Partials.{Partials}
use Rattle.refusal.specs.declared.Refusal.{Refusal}

-- ---- one degree: its rows of P, or of the derivative of P by latitude, and of C and S as functions of the order m, with the cosine and the
-- sine of mλ
-- P (C cos mλ + S sin mλ)
unfoldable pub even_term : (p c s cos sin : ℕ → Float) → ℕ → Float
even_term p c s cos sin m = p m ⊗ (c m ⊗ cos m ⊕ s m ⊗ sin m)

-- P m (S cos mλ - C sin mλ), the derivative of that by longitude
unfoldable pub east_term : (p c s cos sin : ℕ → Float) → ℕ → Float
east_term p c s cos sin m = p m ⊗ of_whole m ⊗ (s m ⊗ cos m ⊖ c m ⊗ sin m)

-- the terms of degree n added order by order from +0.0
unfoldable pub order_sum : (ℕ → Float) → ℕ → Float
order_sum term n = running_sum binary64 term (n + 1) zero⁺

-- those sums for each degree n of a field
unfoldable pub even_row : (P c s : ℕ → ℕ → Float) (cos sin : ℕ → Float) → ℕ → Float
even_row P c s cos sin n = order_sum (even_term (P n) (c n) (s n) cos sin) n

unfoldable pub east_row : (P c s : ℕ → ℕ → Float) (cos sin : ℕ → Float) → ℕ → Float
east_row P c s cos sin n = order_sum (east_term (P n) (c n) (s n) cos sin) n

-- ---- all degrees, with q = radius / r
-- the powers of q, each the one before it times q
unfoldable pub running_power : Float → ℕ → Float
running_power q zero = one64
running_power q (suc n) = running_power q n ⊗ q

unfoldable pub degree_term : Float → (ℕ → Float) → ℕ → Float
degree_term q row n = running_power q n ⊗ row n

-- the rows of the degrees below k, each times its power of q, added from +0.0
unfoldable pub degree_sum : Float → (ℕ → Float) → ℕ → Float
degree_sum q row k = running_sum binary64 (degree_term q row) k zero⁺

-- the same for the derivative by radius: subtracted, and each times n + 1 too
unfoldable pub radial_sum : Float → (ℕ → Float) → ℕ → Float
radial_sum q row zero = zero⁺
radial_sum q row (suc n) = radial_sum q row n ⊖ of_whole (n + 1) ⊗ running_power q n ⊗ row n

-- ---- one point
-- V, ∂V/∂r, ∂V/∂φ and ∂V/∂λ, from P and its derivative dP by latitude
unfoldable pub partials_of : (gm radius r : Float) (P dP c s : ℕ → ℕ → Float) (cos sin : ℕ → Float) (N : ℕ) → Partials
partials_of gm radius r P dP c s cos sin N =
    let q = radius ⊘ r in
    let even = even_row P c s cos sin in
    record {
      v = gm ⊘ r ⊗ degree_sum q even (N + 1);
      dr = gm ⊘ r ⊘ r ⊗ radial_sum q even (N + 1);
      dlat = gm ⊘ r ⊗ degree_sum q (even_row dP c s cos sin) (N + 1);
      dlon = gm ⊘ r ⊗ degree_sum q (east_row P c s cos sin) (N + 1);
    }

-- at radius r and the latitude with the sine t and the cosine u, with the recursion coefficients that `Legendre::new` has; the cosines and sines
-- of the longitude's multiples are those of point i in the list trig
unfoldable pub point_at : (gm radius : Float) (N : ℕ) (c s trig : List Float) (i : ℕ) (r t u : Float) → Partials
point_at gm radius N c s trig i r t u =
    partials_of gm radius r (p_cell (along a_cell) (along b_cell) t u) (dp_cell (along a_cell) (along b_cell) t u) (cells c nan) (cells s nan)
    (cosines trig N i) (sines trig N i) N

-- ---- many points, four numbers each
-- V, ∂V/∂r, ∂V/∂φ, ∂V/∂λ
unfoldable pub component : Partials → ℕ → Float
component p zero = p.v
component p (suc zero) = p.dr
component p (suc (suc zero)) = p.dlat
component p (suc (suc (suc j))) = p.dlon

unfoldable pub along_cell : (gm radius : Float) (N : ℕ) (c s trig radii lats : List Float) (i j : ℕ) → Float
along_cell gm radius N c s trig radii lats i =
    component (point_at gm radius N c s trig i (get_or radii i nan) (row_sine lats i) (row_cosine lats i))

-- ---- the checks, of calls that may use k tables of the working list
-- SIZE of the degree; LENGTH of c, s, and the cosines and sines; SPACE of the working list
unfoldable pub point_check_of : (k nmax clen slen trig work : ℕ) → Result ⊤ Refusal
point_check_of k nmax clen slen trig work =
    tables_check nmax clen slen
    and_then refuse (not (eqb trig (nmax + nmax + 2))) Length (refuse (ltb work (k * table_size nmax)) Space (Ok tt))

-- SIZE of the number of points and the degree; LENGTH of c, s, the radii, the pairs of the latitudes, the cosines and sines; SPACE of the working
-- list and of the output, so many numbers a point
unfoldable pub along_check_of : (k numbers nmax clen slen points radii lats trig work out : ℕ) → Result ⊤ Refusal
along_check_of k numbers nmax clen slen points radii lats trig work out =
    refuse (ltb 65535 points) Size
    (tables_check nmax clen slen
    and_then refuse (not (eqb radii points)) Length
    (refuse (not (eqb lats (points + points))) Length
    (refuse (not (eqb trig (points * (nmax + nmax + 2)))) Length
    (refuse (ltb work (k * table_size nmax)) Space (refuse (ltb out (numbers * points)) Space (Ok tt))))))

-- how many numbers of the working list `partials` and `partials_along` may use: 4T
abbrev pub work_size : ℕ → ℕ
work_size N = 4 * table_size N

abbrev pub partials_check : (nmax clen slen trig work : ℕ) → Result ⊤ Refusal
partials_check = point_check_of 4

abbrev pub along_check : (nmax clen slen points radii lats trig work out : ℕ) → Result ⊤ Refusal
along_check = along_check_of 4 4
