-- The kernel of a basin is the first row of its concentration matrix, and the first column, bit for bit: the function of degree 0 is 1. Assumes nothing.
use Rattle.std.specs.Prelude.{◌≡◌, refl, Bool, true, false, ◌&&◌, List, ℕ, ◌+◌, ◌*◌, ◌≤◌, ◌<◌, eqb, Float}
use Rattle.std.proofs.Common.{sym, ◌∙◌, zero-le, mul-le-mul, arith, le-ltb, ne_eqb}
use Rattle.std.proofs.Math.Path.{ap, ap₂}
use Rattle.std.proofs.Math.Bool.{cond}
use Rattle.std.proofs.Math.ListN.{get_or}
use Rattle.std.specs.Float.Ieee.{nan, binary64, of_bits, mul, div}
use Rattle.std.specs.Float.Ieee.Fits.{mul-fits}
use Rattle.number.specs.Float64.{◌⊕◌, ◌⊗◌, ◌⊘◌, zero64, one64}
use Rattle.number.specs.Identities.{times_one}
use Rattle.storage.specs.Elements.{from}
use Rattle.storage.specs.Iterate.{iterate, iterate_same}
use Rattle.matrix.specs.Matrix.{cell, cell_matrix}
use Rattle.legendre.specs.Directions.{legendre_row}
use Rattle.recursion.specs.Recursion.{p_cell, q_cell, q, pmm, rescale}
use Rattle.region_nodes.specs.Basis.{Basic, basic, basic_at, basis_size, place_of}
use Rattle.region_nodes.specs.Places.{basic_at_lem, place_of_lem, in_within, order_in, sine_in}
use Rattle.region_nodes.specs.Regions.{longitude_product, integrals, function_at, product_at, region_term, add_node, four_pi, lower_cell, region_cell, concentration_matrix}
use Rattle.regions.specs.Symmetry.{matrix_symmetric}
use Rattle.basin_kernel.specs.Kernel.{kernel_term, add_term, kernel_at}

-- P(0, 0) is 1 at every latitude
first_function : (lats : List Float) (ν : ℕ) → legendre_row lats ν 0 0 ≡ one64
unfolding legendre_row p_cell q_cell q pmm rescale of_bits mul div
first_function lats ν = refl

-- the first function of the basis
first_basic : (L : ℕ) → basic_at L 0 ≡ basic 0 0 false
unfolding order_in sine_in
first_basic L = basic_at_lem L 0 0 (omega arith) (omega arith)

-- a sine has an order above 0
present : (sine : Bool) (m : ℕ) → (sine ≡ true → 0 < m) → sine && eqb m 0 ≡ false
present false m h = refl
present true m h = ne_eqb m 0 (λ z. let g = h refl in omega arith)

-- the place of a function is within the basis
within-basis : (L l m : ℕ) (sine : Bool) → l ≤ L → m ≤ l → place_of l m sine < basis_size L
unfolding place_of basis_size
within-basis L l m sine h b = let g = in_within m l sine b in let k : l + 1 ≤ L + 1 = omega arith in omega (arith, g, mul-le-mul k k)

module _ (L : ℕ) (weights lats : List Float) (marks : List ℕ) (s c : List Float) (l m : ℕ) (sine : Bool) (h : l ≤ L) (b : m ≤ l)
    (sines : sine ≡ true → 0 < m) where
  abbrev place : ℕ
  place = place_of l m sine

  function_is : (ν : ℕ) → function_at L lats ν place ≡ legendre_row lats ν l m
  unfolding function_at
  function_is ν = ap (λ (f : Basic). legendre_row lats ν f.degree f.order) (place_of_lem L l m sine h b sines)

  first_is_one : (ν : ℕ) → function_at L lats ν 0 ≡ one64
  unfolding function_at
  first_is_one ν = ap (λ (f : Basic). legendre_row lats ν f.degree f.order) (first_basic L) ∙ first_function lats ν

  product_is : (ν : ℕ) → product_at L s c ν place 0 ≡ longitude_product (from (ν * integrals L) s nan) (from (ν * integrals L) c nan) m sine 0 false
  unfolding product_at
  product_is ν =
      ap₂ (λ (f g : Basic).
      longitude_product (from (ν * integrals L) s nan) (from (ν * integrals L) c nan) f.order f.sine g.order g.sine)
      (place_of_lem L l m sine h b sines) (first_basic L)

  term_same : (ν : ℕ) → region_term L weights lats marks s c place 0 ν ≡ kernel_term L weights lats marks s c sine l m ν
  unfolding region_term kernel_term
  term_same ν =
      let w = get_or weights ν nan in
      let p = legendre_row lats ν l m in
      let one : w ⊗ function_at L lats ν place ⊗ function_at L lats ν 0 ≡ w ⊗ p =
      ap₂ (λ (x y : Float). w ⊗ x ⊗ y) (function_is ν) (first_is_one ν) ∙ times_one (w ⊗ p) (mul-fits binary64 w p) in
      ap₂ (λ (x y : Float). x ⊗ y) one (product_is ν)

  module _ (nodes : ℕ) where
    lower_same : lower_cell L weights lats marks s c nodes place 0 ≡ kernel_at L weights lats marks s c sine nodes l m
    unfolding lower_cell kernel_at add_node add_term
    lower_same =
        ap (λ (x : Float). x ⊘ four_pi)
        (iterate_same (add_node L weights lats marks s c place 0) (add_term L weights lats marks s c sine l m) 0 nodes zero64
        (λ ν x g k. ap (λ (y : Float). cond (eqb (get_or marks ν 0) 0) x (x ⊕ y)) (term_same ν)))
        ∙ ap (λ (z : Bool). cond z zero64 (iterate (add_term L weights lats marks s c sine l m) 0 nodes zero64 ⊘ four_pi)) (sym (present sine m sines))

    region_first : region_cell L weights lats marks s c nodes place 0 ≡ kernel_at L weights lats marks s c sine nodes l m
    unfolding region_cell
    region_first =
        ap (λ (z : Bool). cond z (lower_cell L weights lats marks s c nodes 0 place) (lower_cell L weights lats marks s c nodes place 0))
        (le-ltb place 0 zero-le)
        ∙ lower_same

    -- the first column of the matrix
    pub kernel_column : cell (basis_size L) (concentration_matrix L weights lats marks s c nodes) place 0 ≡ kernel_at L weights lats marks s c sine nodes l m
    unfolding concentration_matrix
    kernel_column =
        let g = within-basis L l m sine h b in
        cell_matrix (basis_size L) (region_cell L weights lats marks s c nodes) place 0 g (omega arith) ∙ region_first

    -- and the first row
    pub kernel_row : cell (basis_size L) (concentration_matrix L weights lats marks s c nodes) 0 place ≡ kernel_at L weights lats marks s c sine nodes l m
    kernel_row =
        let g = within-basis L l m sine h b in
        matrix_symmetric L weights lats marks s c nodes 0 place (omega arith) g ∙ kernel_column
