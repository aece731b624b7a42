-- The basis up to degree 2, written out, and the integrals at a negative difference of orders, with their bits. Assumes nothing.
use Rattle.std.specs.Prelude.{◌≡◌, refl, true, false, List, [], ◌∷◌, ℕ, Float}
use Rattle.std.specs.Float.{nan}
use Rattle.std.specs.Float.Ieee.{neg, of_bits}
use Rattle.number.specs.Float64.{double}
use Rattle.storage.specs.Elements.{from}
use Rattle.region_nodes.specs.Basis.{basic, pairs, basis_row, basis_below, basis, in_degree, place_of}
use Rattle.region_nodes.specs.Regions.{even_at, odd_at}

-- the basis: 1; then degree 1 with 1, cos λ, sin λ; then degree 2 with 1, cos λ, sin λ, cos 2λ, sin 2λ
basis_two : basis 2
    ≡ (basic 0 0 false ∷ basic 1 0 false ∷ basic 1 1 false ∷ basic 1 1 true ∷ basic 2 0 false ∷ basic 2 1 false ∷ basic 2 1 true ∷ basic 2 2 false ∷
    basic 2 2 true ∷ [])
unfolding basis basis_below basis_row pairs
basis_two = refl

-- the places of cos 2λ and sin 2λ of degree 2
places_two : ◌≡◌ {A = ℕ × ℕ} (place_of 2 2 false, place_of 2 2 true) (7, 8)
unfolding place_of in_degree
places_two = refl

-- the integrals of a node: +0, 0.25, -0.5
abbrev given : List Float
given = double 0 ∷ double 0x3fd0_0000_0000_0000 ∷ double 0xbfe0_0000_0000_0000 ∷ []

-- at the difference 0 - 2 the odd one is the number at 2 with its sign turned, the even one the number itself
odd_two : ◌≡◌ {A = Float × Float × Float} (odd_at (from 0 given nan) 0 2, odd_at (from 0 given nan) 2 0, even_at (from 0 given nan) 0 2)
    (double 0x3fe0_0000_0000_0000, double 0xbfe0_0000_0000_0000, double 0xbfe0_0000_0000_0000)
unfolding odd_at even_at from neg of_bits
odd_two = refl

-- the sign is turned of a zero too: +0 at the difference -1 is -0
odd_zero : ◌≡◌ {A = Float × Float} (odd_at (from 1 (nan ∷ nan ∷ double 0 ∷ []) nan) 2 3, odd_at (from 1 (nan ∷ nan ∷ double 0 ∷ []) nan) 3 2)
    (double 0x8000_0000_0000_0000, double 0)
unfolding odd_at from neg of_bits
odd_zero = refl
