-- The basis of the functions on the sphere up to degree L, in the Rust's order: the degree l outermost, then the order m, the cosine before the sine,
-- and no sine at m = 0. Definitions only.
use Rattle.std.specs.Prelude.{Bool, true, false, cond, List, [], ◌∷◌, ◌++◌, ℕ, zero, suc, ◌+◌, ◌-◌, ◌*◌, eqb, get_or}

-- P(degree, order) times cos(order λ), or times sin(order λ)
pub record Basic : Type 0 where
  pub degree : ℕ
  pub order : ℕ
  pub sine : Bool

abbrev pub basic : ℕ → ℕ → Bool → Basic
basic l m sine = record { degree = l; order = m; sine = sine }

-- the functions of degree l with the orders 1 .. m
unfoldable pub pairs : ℕ → ℕ → List Basic
pairs l zero = []
pairs l (suc m) = pairs l m ++ (basic l (suc m) false ∷ basic l (suc m) true ∷ [])

-- those of degree l, of the degrees below l, and of all degrees up to L
unfoldable pub basis_row : ℕ → List Basic
basis_row l = basic l 0 false ∷ pairs l l

unfoldable pub basis_below : ℕ → List Basic
basis_below zero = []
basis_below (suc l) = basis_below l ++ basis_row l

unfoldable pub basis : ℕ → List Basic
basis L = basis_below (L + 1)

-- how many there are
unfoldable pub basis_size : ℕ → ℕ
basis_size L = (L + 1) * (L + 1)

-- the function at place i
unfoldable pub basic_at : ℕ → ℕ → Basic
basic_at L i = get_or (basis L) i (basic 0 0 false)

-- the place of a function within its degree, and in the basis
unfoldable pub in_degree : ℕ → Bool → ℕ
in_degree m sine = cond (eqb m 0) 0 (cond sine (m + m) (m + m - 1))

unfoldable pub place_of : ℕ → ℕ → Bool → ℕ
place_of l m sine = l * l + in_degree m sine
