-- Rules of 1, 2 and 3 nodes, with the bits that the Rust gives from the same guesses. Assumes nothing.
use Rattle.std.specs.Prelude.{◌≡◌, refl, List, [], ◌∷◌, ℕ, Float}
use Rattle.std.specs.Float.{nan}
use Rattle.std.specs.Float.Ieee.{neg, of_bits, of_int, add, sub, mul, div, le, lt, eq}
use Rattle.number.specs.Float64.{double}
use Rattle.number.specs.Sign.{magnitude_of}
use Rattle.storage.specs.Elements.{from}
use Rattle.storage.specs.Fill.{fill}
use Rattle.storage.specs.Iterate.{turns, iterate, iterate_until}
use Rattle.quadrature.specs.Gauss.{bonnet_turn, legendre, corrected, newton_step, legendre_root, upper_node, upper_weight, gauss_node, gauss_weight}

-- the numbers with these bit patterns
abbrev doubles : List ℕ → List Float
doubles [] = []
doubles (b ∷ l) = double b ∷ doubles l

-- n nodes and n weights from a list of guesses, in lists of the length of l
abbrev rule : ℕ → List Float → List Float → List Float × List Float
rule n guesses l = (fill 0 (gauss_node (from 0 guesses nan) n) n l, fill 0 (gauss_weight (from 0 guesses nan) n) n l)

-- document 01: with n 1 and guess 2^-54, node +0 and weight 2
one_node : rule 1 (doubles (0x3c90_0000_0000_0000 ∷ [])) (nan ∷ []) ≡ (doubles (0 ∷ []), doubles (0x4000_0000_0000_0000 ∷ []))
unfolding gauss_node gauss_weight upper_node upper_weight legendre_root newton_step corrected legendre bonnet_turn
    iterate_until iterate turns from fill magnitude_of of_bits of_int neg add sub mul div le lt eq
one_node = refl

-- with n 2 and guess 0.5: ±1/√3 and 1, 1
two_nodes : rule 2 (doubles (0x3fe0_0000_0000_0000 ∷ [])) (nan ∷ nan ∷ [])
    ≡ (doubles (0xbfe2_79a7_4590_331c ∷ 0x3fe2_79a7_4590_331c ∷ []), doubles (0x3ff0_0000_0000_0001 ∷ 0x3ff0_0000_0000_0001 ∷ []))
unfolding gauss_node gauss_weight upper_node upper_weight legendre_root newton_step corrected legendre bonnet_turn
    iterate_until iterate turns from fill magnitude_of of_bits of_int neg add sub mul div le lt eq
two_nodes = refl

-- with n 3 and guesses 0.75, 0.25: ∓√(3/5), 0 and 5/9, 8/9, 5/9
three_nodes : rule 3 (doubles (0x3fe8_0000_0000_0000 ∷ 0x3fd0_0000_0000_0000 ∷ [])) (nan ∷ nan ∷ nan ∷ [])
    ≡ (
      doubles (0xbfe8_c97e_f43f_7248 ∷ 0 ∷ 0x3fe8_c97e_f43f_7248 ∷ []),
      doubles (0x3fe1_c71c_71c7_1c6f ∷ 0x3fec_71c7_1c71_c71c ∷ 0x3fe1_c71c_71c7_1c6f ∷ []),
    )
unfolding gauss_node gauss_weight upper_node upper_weight legendre_root newton_step corrected legendre bonnet_turn
    iterate_until iterate turns from fill magnitude_of of_bits of_int neg add sub mul div le lt eq
three_nodes = refl
