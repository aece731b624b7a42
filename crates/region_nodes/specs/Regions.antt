-- The concentration matrix of a region, D(i, j) = (1/4π)∫ P(i) P(j) T(i) T(j) dΩ over the region (Simons, Dahlen & Wieczorek 2006), by nodes in
-- colatitude with the integrals over the region's longitudes at each: in the order of the Rust's operations. Definitions only.
use Rattle.std.specs.Prelude.{Bool, true, false, cond, List, ℕ, ◌+◌, ◌-◌, ◌*◌, eqb, ltb, get_or, Float}
use Rattle.std.specs.Float.{nan}
use Rattle.std.specs.Float.Ieee.{neg}
use Rattle.number.specs.Float64.{◌⊕◌, ◌⊖◌, ◌⊗◌, ◌⊘◌, double, zero64}
use Rattle.storage.specs.Elements.{from}
use Rattle.storage.specs.Iterate.{iterate}
use Rattle.legendre.specs.Directions.{legendre_row}
use Rattle.matrix.specs.Matrix.{matrix_of}
use Rattle.region_nodes.specs.Basis.{basic_at, basis_size}

-- ---- the longitudes of a node: s f is the integral of cos fλ over them, c f that of sin fλ
-- for a negative difference of orders both are taken at its size, c with its sign turned
unfoldable pub even_at : (ℕ → Float) → ℕ → ℕ → Float
even_at s a b = cond (ltb a b) (s (b - a)) (s (a - b))

unfoldable pub odd_at : (ℕ → Float) → ℕ → ℕ → Float
odd_at c a b = cond (ltb a b) (neg (c (b - a))) (c (a - b))

abbrev pub half : Float
half = double 0x3fe0_0000_0000_0000

-- ∫ T(a) T(b) dλ for the orders a and b, each of a cosine or of a sine
unfoldable pub longitude_product : (ℕ → Float) → (ℕ → Float) → ℕ → Bool → ℕ → Bool → Float
longitude_product s c a false b false = half ⊗ (even_at s a b ⊕ s (a + b))
longitude_product s c a true b true = half ⊗ (even_at s a b ⊖ s (a + b))
longitude_product s c a true b false = half ⊗ (c (a + b) ⊕ odd_at c a b)
longitude_product s c a false b true = half ⊗ (c (a + b) ⊖ odd_at c a b)

-- how many integrals s, and how many c, a node has: f = 0 .. 2L
unfoldable pub integrals : ℕ → ℕ
integrals L = L + L + 1

-- 4π, rounded
abbrev pub four_pi : Float
four_pi = double 0x4029_21fb_5444_2d18

-- P of the function at place i, at node ν
unfoldable pub function_at : ℕ → List Float → ℕ → ℕ → Float
function_at L lats ν i = legendre_row lats ν (basic_at L i).degree (basic_at L i).order

-- ∫ T(i) T(j) dλ over the longitudes of node ν
unfoldable pub product_at : ℕ → List Float → List Float → ℕ → ℕ → ℕ → Float
product_at L s c ν i j =
    longitude_product (from (ν * integrals L) s nan) (from (ν * integrals L) c nan) (basic_at L i).order (basic_at L i).sine (basic_at L j).order
    (basic_at L j).sine

module _ (L : ℕ) (weights lats : List Float) (marks : List ℕ) (s c : List Float) where
  -- what node ν adds at i and j, for j up to i
  unfoldable pub region_term : ℕ → ℕ → ℕ → Float
  region_term i j ν = get_or weights ν nan ⊗ function_at L lats ν i ⊗ function_at L lats ν j ⊗ product_at L s c ν i j

  -- a node that is marked 0 is skipped
  unfoldable pub add_node : ℕ → ℕ → ℕ → Float → Float
  add_node i j ν x = cond (eqb (get_or marks ν 0) 0) x (x ⊕ region_term i j ν)

  module _ (nodes : ℕ) where
    -- the number at i and j up to i, and the one at (j, i) which is its copy
    unfoldable pub lower_cell : ℕ → ℕ → Float
    lower_cell i j = iterate (add_node i j) 0 nodes zero64 ⊘ four_pi

    unfoldable pub region_cell : ℕ → ℕ → Float
    region_cell i j = cond (ltb i j) (lower_cell j i) (lower_cell i j)

    unfoldable pub concentration_matrix : List Float
    concentration_matrix = matrix_of (basis_size L) region_cell
