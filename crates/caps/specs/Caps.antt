-- The Slepian functions of a polar cap (Simons, Dahlen & Wieczorek 2006): the matrices of one order m, over the degrees l = m .. L, in the order of
-- the Rust's operations. Index i stands for the degree m + i. Definitions only.
use Rattle.std.specs.Prelude.{cond, List, ℕ, ◌+◌, ◌-◌, eqb, get_or, Float}
use Rattle.std.specs.Float.{nan, binary64}
use Rattle.std.specs.Float.Ieee.{neg}
use Rattle.number.specs.Float64.{◌⊕◌, ◌⊖◌, ◌⊗◌, ◌⊘◌, double, of_whole, zero64, one64, two64, three64}
use Rattle.number.specs.Root.{root_of}
use Rattle.rounding.specs.Sums.{zero⁺, running_sum}
use Rattle.legendre.specs.Directions.{legendre_row}
use Rattle.matrix.specs.Matrix.{cell, matrix_of}

-- how many degrees have an order m
abbrev pub degrees : ℕ → ℕ → ℕ
degrees L m = L - m + 1

-- ---- the concentration matrix, by quadrature over the cap
-- ∫cos²mλ dλ/4π is 1/2 for m = 0 and 1/4 otherwise, times half of the cap's 1 - x₀
unfoldable pub cap_factor : ℕ → Float → Float
cap_factor m x₀ = cond (eqb m 0) (double 0x3fe0_0000_0000_0000) (double 0x3fd0_0000_0000_0000) ⊗ (one64 ⊖ x₀) ⊘ two64

-- what node ν adds at i and j: the two functions multiply one after the other, so that (i, j) and (j, i) may differ in their last bits
unfoldable pub node_term : ℕ → Float → List Float → List Float → ℕ → ℕ → ℕ → Float
node_term m x₀ weights lats i j ν =
    cap_factor m x₀ ⊗ get_or weights ν nan ⊗ legendre_row lats ν (m + i) m ⊗ legendre_row lats ν (m + j) m

unfoldable pub concentration_cell : ℕ → ℕ → Float → List Float → List Float → ℕ → ℕ → Float
concentration_cell L m x₀ weights lats i j = running_sum binary64 (node_term m x₀ weights lats i j) (L + 1) zero⁺

unfoldable pub concentration : ℕ → ℕ → Float → List Float → List Float → List Float
concentration L m x₀ weights lats = matrix_of (degrees L m) (concentration_cell L m x₀ weights lats)

-- ---- Grünbaum's tridiagonal matrix, which commutes with it
-- -l(l + 1) cos Θ on the diagonal, with l = m + i
unfoldable pub grunbaum_diagonal : ℕ → Float → ℕ → Float
grunbaum_diagonal m x₀ i =
    let l = of_whole (m + i) in
    neg l ⊗ (l ⊕ one64) ⊗ x₀

-- (l(l + 2) - L(L + 2)) √(((l + 1)² - m²)/((2l + 1)(2l + 3))) beside it
unfoldable pub grunbaum_beside : ℕ → ℕ → ℕ → Float
grunbaum_beside L m i =
    let l = of_whole (m + i) in
    let top = of_whole L in
    let mf = of_whole m in
    (l ⊗ (l ⊕ two64) ⊖ top ⊗ (top ⊕ two64))
    ⊗ root_of (((l ⊕ one64) ⊗ (l ⊕ one64) ⊖ mf ⊗ mf) ⊘ ((two64 ⊗ l ⊕ one64) ⊗ (two64 ⊗ l ⊕ three64)))

unfoldable pub grunbaum_cell : ℕ → ℕ → Float → ℕ → ℕ → Float
grunbaum_cell L m x₀ i j =
    cond (eqb i j) (grunbaum_diagonal m x₀ i)
    (cond (eqb (i + 1) j) (grunbaum_beside L m i) (cond (eqb (j + 1) i) (grunbaum_beside L m j) zero64))

unfoldable pub grunbaum : ℕ → ℕ → Float → List Float
grunbaum L m x₀ = matrix_of (degrees L m) (grunbaum_cell L m x₀)

-- ---- Rayleigh's quotient of a column of the matrix v of vectors, with the matrix d, both k by k
unfoldable pub inner_term : ℕ → List Float → List Float → ℕ → ℕ → ℕ → Float
inner_term k d v i col j = cell k d i j ⊗ cell k v j col

unfoldable pub outer_term : ℕ → List Float → List Float → ℕ → ℕ → Float
outer_term k d v col i = cell k v i col ⊗ running_sum binary64 (inner_term k d v i col) k zero⁺

unfoldable pub rayleigh : ℕ → List Float → List Float → ℕ → Float
rayleigh k d v col = running_sum binary64 (outer_term k d v col) k zero⁺
