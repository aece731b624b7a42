-- What the loops write that put the functions in the order of their ranks. Assumes nothing.
use Rattle.std.specs.Prelude.{◌≡◌, Bool, true, false, cond, List, ℕ, ◌+◌, ◌-◌, ◌*◌, eqb, Float}
use Rattle.std.proofs.Math.Path.{refl, ap}
use Rattle.std.proofs.Common.{add-zero}
use borrow.Author.Tests.{eq-eqb, ne_eqb}
use Rattle.std.proofs.Math.ListN.{get_or}
use Rattle.std.specs.Float.{nan}
use Rattle.number.specs.Float64.{zero64}
use Rattle.storage.specs.Filled.{Filled, filled_same}
use Rattle.storage.specs.Rectangle.{by_rows, by_rows_more, by_rows_within}
use Rattle.storage.specs.Triangle.{along, row_start, rows_more}
use Rattle.ranking.specs.RankedIn.{RankedIn}
use Rattle.region_nodes.specs.Basis.{in_degree}

-- the number of order m of a degree whose numbers start at index at of w
unfoldable pub number_in : Bool → List Float → ℕ → ℕ → Float
number_in false w at m = get_or w (at + in_degree m false) nan
number_in true w at m = cond (eqb m 0) zero64 (get_or w (at + in_degree m true) nan)

-- the number of degree l and order m of a vector that starts at index start
unfoldable pub in_vector : Bool → List Float → ℕ → ℕ → ℕ → Float
in_vector sine w start l m = number_in sine w (start + l * l) m

-- what the loops over the places pick: number k of the vector at place i, of n numbers each from index at on, and a value
unfoldable pub picked_vector : Bool → ℕ → ℕ → List ℕ → List Float → ℕ → ℕ → Float
picked_vector sine n at places w i = along (in_vector sine w (at + get_or places i 0 * n))

unfoldable pub picked_value : List ℕ → List Float → ℕ → Float
picked_value places values i = get_or values (get_or places i 0) nan

-- ---- the number of one order, each way through the tests
module _ (w : List Float) (at m : ℕ) where
  pub sine_none : {sine : Bool} → sine ≡ true → m ≡ 0 → zero64 ≡ number_in sine w at m
  unfolding number_in
  sine_none s e = rw (s, eq-eqb m 0 e) refl

  pub sine_some : {sine : Bool} → sine ≡ true → (m ≡ 0 → ⊥) → get_or w (at + (m + m)) nan ≡ number_in sine w at m
  unfolding number_in in_degree
  sine_some s e = rw (s, ne_eqb m 0 e) refl

  pub cosine_none : {sine : Bool} → sine ≡ false → m ≡ 0 → get_or w at nan ≡ number_in sine w at m
  unfolding number_in in_degree
  cosine_none s e = rw (s, eq-eqb m 0 e, add-zero) refl

  pub cosine_some : {sine : Bool} → sine ≡ false → (m ≡ 0 → ⊥) → get_or w (at + (m + m - 1)) nan ≡ number_in sine w at m
  unfolding number_in in_degree
  cosine_some s e = rw (s, ne_eqb m 0 e) refl

-- ---- the degrees of one function
-- degree l written after those below it
pub degrees_more : (sine : Bool) (w : List Float) (start l : ℕ) {at to row : ℕ} {d out out' : List Float}
    → Filled to (along (in_vector sine w start)) (row_start l) d out → Filled row (number_in sine w at) (l + 1) out out' → at ≡ start + l * l
    → row ≡ to + row_start l → Filled to (along (in_vector sine w start)) (row_start (l + 1)) d out'
unfolding in_vector
degrees_more sine w start l r s e p =
    rows_more (in_vector sine w start) l r (filled_same (in_vector sine w start l) s (λ m h. ap (λ (x : ℕ). number_in sine w x m) e)) refl p refl

-- the function at place i written after those before it
pub functions_more : (sine : Bool) (n at : ℕ) (places : List ℕ) (w : List Float) (i table : ℕ) {row to : ℕ} {d out out' : List Float}
    → Filled 0 (by_rows (picked_vector sine n at places w) table) (i * table) d out
    → Filled to (along (in_vector sine w (at + row))) table out out' → row ≡ get_or places i 0 * n → to ≡ i * table
    → Filled 0 (by_rows (picked_vector sine n at places w) table) ((i + 1) * table) d out'
unfolding picked_vector
functions_more sine n at places w i table r s e p =
    by_rows_more (picked_vector sine n at places w) table i r
    (filled_same (picked_vector sine n at places w i) s (λ k h. ap (λ (x : ℕ). along (in_vector sine w (at + x)) k) e)) refl p

-- ---- the places as they were ranked
module _ {n : ℕ} {P places : List ℕ} (r : RankedIn n P places) where
  pub picked_values : (values : List Float) {d l : List Float} → Filled 0 (picked_value places values) n d l → Filled 0 (picked_value P values) n d l
  unfolding picked_value
  picked_values values s = filled_same (picked_value P values) s (λ i b. ap (λ (x : ℕ). get_or values x nan) (r.at i b))

  pub picked_vectors : (sine : Bool) (at table : ℕ) (w : List Float) {d l : List Float}
      → Filled 0 (by_rows (picked_vector sine n at places w) table) (n * table) d l → Filled 0 (by_rows (picked_vector sine n at P w) table) (n * table) d l
  unfolding picked_vector
  picked_vectors sine at table w s =
      by_rows_within (picked_vector sine n at places w) (picked_vector sine n at P w) n table
      (λ i k b g. ap (λ (x : ℕ). along (in_vector sine w (at + x * n)) k) (r.at i b)) s
