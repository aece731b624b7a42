-- The answer of `region`: what was picked from the values and the vectors in the working list are the concentrations and the numbers of the ranked
-- functions. Assumes nothing.
use Rattle.std.specs.Prelude.{◌≡◌, Bool, ℕ, ◌+◌, ◌*◌, ◌≤◌, ◌<◌, eqb, take, Float}
use Rattle.std.proofs.Common.{sym, ◌∙◌, zero-add, ext_get_or, get_or-take, length-take-le}
use Rattle.std.proofs.Math.Path.{ap, subst₂}
use Rattle.std.proofs.Math.Bool.{true, false, cond}
use mathlib.Core.List.{List}
use native.Mathlib.Omega.{arith}
use Rattle.std.proofs.Math.ListN.{length, get_or}
use Rattle.std.specs.Float.{nan}
use Rattle.number.specs.Float64.{zero64}
use Rattle.storage.specs.Elements.{from, from_zero}
use Rattle.storage.specs.Filled.{Filled, filled_in, filled_same, filled_to}
use Rattle.storage.specs.Rectangle.{by_rows, by_rows_within}
use Rattle.storage.specs.Triangle.{table_size, along, along_same}
use Rattle.matrix.specs.Matrix.{cell}
use Rattle.linalg.specs.Eigen.{eigen_values, eigen_vectors}
use Rattle.linalg.specs.Sizes.{length_values}
use Rattle.ranking.specs.Places.{ranked_places}
use Rattle.ranking.specs.Rankings.{length_places, every-place, every_at}
use Rattle.region_nodes.specs.Basis.{basis_size, in_degree, place_of}
use Rattle.region_nodes.specs.Places.{in_within}
use Rattle.region_nodes.specs.NodeLaws.{degree_within}
use Rattle.region.specs.Region.{ranked_at, concentration_at, coefficient_of, numbers_at}
use Rattle.region.specs.Written.{number_in, in_vector, picked_vector, picked_value}
use Rattle.region.specs.Storage.{VectorsIn}

module _ (L : ℕ) (D : List Float) {n : ℕ} (en : n ≡ basis_size L) (top : L ≤ 21) where
  -- ---- one number of a vector
  module _ {at : ℕ} {w : List Float} (v : VectorsIn n at D w) where
    number_is : (sine : Bool) (f l m : ℕ) → f < n → m ≤ l → l ≤ L
        → get_or w (at + f * n + l * l + in_degree m sine) nan ≡ cell (basis_size L) (eigen_vectors (basis_size L) D) (place_of l m sine) f
    unfolding place_of
    number_is sine f l m h b g =
        let d = degree_within l L g top in
        let i = in_within m l sine b in
        let e : at + f * n + l * l + in_degree m sine ≡ at + (f * n + (l * l + in_degree m sine)) = omega arith in
        ap (λ (x : ℕ). get_or w x nan) e
        ∙ v.are f (l * l + in_degree m sine) h (omega (arith, d, i, en))
        ∙ ap (λ (x : ℕ). cell x (eigen_vectors x D) (l * l + in_degree m sine) f) en

    coefficient_is : (sine : Bool) (f l m : ℕ) → f < n → m ≤ l → l ≤ L → in_vector sine w (at + f * n) l m ≡ coefficient_of L D sine f l m
    unfolding in_vector number_in coefficient_of
    coefficient_is false f l m h b g = number_is false f l m h b g
    coefficient_is true f l m h b g = ap (λ (x : Float). cond (eqb m 0) zero64 x) (number_is true f l m h b g)

  -- ---- the ranked places
  module _ {d values : List Float} (r : Filled 0 (from 0 (eigen_values n D) nan) n d values) (room : n ≤ length d) where
    value_at_lem : (i : ℕ) → i < n → get_or values i nan ≡ get_or (eigen_values (basis_size L) D) i nan
    value_at_lem i h =
        filled_in {j = i} nan r h (sym (zero-add i)) (omega arith)
        ∙ from_zero (eigen_values n D) nan i
        ∙ ap (λ (x : ℕ). get_or (eigen_values x D) i nan) en

    values_are : take n values ≡ eigen_values (basis_size L) D
    values_are =
        let long = r.long in
        let l = length-take-le n values (omega arith) in
        let k = length_values (basis_size L) D in
        ext_get_or nan (take n values) (eigen_values (basis_size L) D) (omega arith) (λ i h. get_or-take n values i nan (omega arith) ∙ value_at_lem i (omega arith))

    place_is : (i : ℕ) → get_or (ranked_places (take n values)) i 0 ≡ ranked_at L D i
    unfolding ranked_at
    place_is i = ap (λ (x : List Float). get_or (ranked_places x) i 0) values_are

    place-below : (i : ℕ) → i < n → ranked_at L D i < n
    unfolding ranked_at
    place-below i h =
        let keys = eigen_values (basis_size L) D in
        let k = length_values (basis_size L) D in
        let l = length_places keys in
        let g = every_at (λ f. f < length keys) 0 (ranked_places keys) (every-place keys) i (omega arith) in
        omega arith

    pub concentrations_are : {o o' : List Float} → Filled 0 (picked_value (ranked_places (take n values)) values) n o o'
        → Filled 0 (concentration_at L D) (basis_size L) o o'
    unfolding picked_value concentration_at
    concentrations_are s =
        filled_to
        (filled_same (concentration_at L D) s
        (λ i h. ap (λ (x : ℕ). get_or values x nan) (place_is i) ∙ value_at_lem (ranked_at L D i) (place-below i h)))
        en

    pub numbers_are : (sine : Bool) {at table : ℕ} {w o o' : List Float} → VectorsIn n at D w → table ≡ table_size L
        → Filled 0 (by_rows (picked_vector sine n at (ranked_places (take n values)) w) table) (n * table) o o'
        → Filled 0 (by_rows (numbers_at L D sine) (table_size L)) (basis_size L * table_size L) o o'
    unfolding picked_vector numbers_at
    numbers_are sine {at} {table} {w} {o} {o'} v t s =
        let P = ranked_places (take n values) in
        let made : Filled 0 (by_rows (numbers_at L D sine) table) (n * table) o o' =
        by_rows_within (picked_vector sine n at P w) (numbers_at L D sine) n table
        (λ i k h g.
        ap (λ (x : ℕ). along (in_vector sine w (at + x * n)) k) (place_is i)
        ∙ along_same (in_vector sine w (at + ranked_at L D i * n)) (coefficient_of L D sine (ranked_at L D i)) L
        (λ l m b c. coefficient_is v sine (ranked_at L D i) l m (place-below i h) b c) k (omega arith))
        s in
        subst₂ (λ (x y : ℕ). Filled 0 (by_rows (numbers_at L D sine) y) (x * y) o o') en t made
