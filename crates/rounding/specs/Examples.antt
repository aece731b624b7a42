-- The definitions of Units, Sums and Margins at fixed numbers: what they compute is what is meant. Assumes nothing.
use Rattle.std.specs.Prelude.{◌≡◌, refl, List, [], ◌∷◌, ℕ, ◌+◌, ◌*◌, ◌/◌, ◌^◌, pos, neg_ℤ, get_or}
use lib.Ieee.{Float, binary64, of_bits, to_bits}
use Rattle.rounding.specs.Units.{exact}
use Rattle.rounding.specs.Sums.{running_sum, triangle_sum, column_sum}
use Rattle.rounding.specs.Margins.{average_relative, grid_relative, grid_absolute, average, average_term_c, average_term_s, average_pair, average_pair_size, grid_value}

-- ---- -1.5 is -3 * 2 ^ 1073 units, and the smallest positive double is one unit
exact_of_minus_1·5 : exact binary64 (of_bits binary64 0xbff8000000000000) ≡ neg_ℤ (pos (3 * 2 ^ 1073))
unfolding exact of_bits
exact_of_minus_1·5 = refl

exact_of_smallest : exact binary64 (of_bits binary64 1) ≡ pos 1
unfolding exact of_bits
exact_of_smallest = refl

-- ---- the margins at the largest degree: T = 3,649,051 pairs
average_relative_2700 : average_relative 2700 ≡ 3649056
unfolding average_relative
average_relative_2700 = refl

grid_relative_2700 : grid_relative 2700 ≡ 5407
unfolding grid_relative
grid_relative_2700 = refl

grid_absolute_2700 : grid_absolute 2700 ≡ 14601606
unfolding grid_absolute
grid_absolute_2700 = refl

-- ---- the terms 2 * 3 * 1 and 2 * -5 * 0.5, each counted by itself: their sum is 1, their sizes add up to 11
unfoldable pub constant : ℕ → ℕ → ℕ → Float
constant b n m = of_bits binary64 b

pair_sum : average_pair (constant 0x4008000000000000) (constant 0xc014000000000000) (constant 0x3ff0000000000000) (constant 0x3fe0000000000000)
    (constant 0x4000000000000000 0) 0 0 ≡ pos (2 ^ 3222)
unfolding average_pair average_term_c average_term_s constant exact of_bits
pair_sum = refl

pair_size : average_pair_size (constant 0x4008000000000000) (constant 0xc014000000000000) (constant 0x3ff0000000000000) (constant 0x3fe0000000000000)
    (constant 0x4000000000000000 0) 0 0 ≡ 11 * 2 ^ 3222
unfolding average_pair_size average_term_c average_term_s constant exact of_bits
pair_size = refl

-- ---- an average and a grid value of degree 2, against bits that a processor computed in the order of the Rust's loops
unfoldable pub line : List ℕ → ℕ → Float
line l m = of_bits binary64 (get_or l m 0)

table : List ℕ → ℕ → ℕ → Float
table l n m = of_bits binary64 (get_or l (n * (n + 1) / 2 + m) 0)

c : ℕ → ℕ → Float
c = table (0x3fcf767c482c9b00 ∷ 0x3fdef2e045bc8fb8 ∷ 0x3fe2e4738d8608fe ∷ 0x3fec511afebb6a18 ∷ 0x3fdeb4ff1a6eb8c8 ∷ 0x3feb075f6c3d8588 ∷ [])

s : ℕ → ℕ → Float
s = table (0xbfee24c74146f792 ∷ 0xbfb199e84e56b1f0 ∷ 0x3fec5ff4d9fe0f50 ∷ 0x3fd3119920d46410 ∷ 0x3fe9a85a89413b44 ∷ 0xbfe8c13bc5069136 ∷ [])

c' : ℕ → ℕ → Float
c' = table (0xbfafac5d10d6c780 ∷ 0xbfe0382694f43532 ∷ 0x3fb667d2c686bfa0 ∷ 0x3fc2edcf47fa8468 ∷ 0xbfef29231a268928 ∷ 0xbfe2211954bc1b4e ∷ [])

s' : ℕ → ℕ → Float
s' = table (0xbfdc39ebfd1637d8 ∷ 0x3feaa5670ef08e64 ∷ 0x3fe101a5531d914e ∷ 0xbfe5c90b69e793a6 ∷ 0x3fe30474d09350f2 ∷ 0xbfe71e6f430e7cb8 ∷ [])

P : ℕ → ℕ → Float
P = table (0x400db65e820d9a04 ∷ 0xc0073e55524399a3 ∷ 0xc006c2f21666131d ∷ 0x40134bfdfdd44bd6 ∷ 0x400dcae939aa3344 ∷ 0xc000db07b8dd0d73 ∷ [])

factor : ℕ → Float
factor = line (0x3fe68d06baad1208 ∷ 0xc001eb1ead34e0c8 ∷ 0xc007ea30c42a7d6d ∷ [])

cos : ℕ → Float
cos = line (0x3fed88daf9975348 ∷ 0x3fb4151938125520 ∷ 0x3fd6c3262a02fda8 ∷ [])

sin : ℕ → Float
sin = line (0xbfe2e4e4768bf14e ∷ 0x3fec38f367bf9ab0 ∷ 0x3fd866f483266aa0 ∷ [])

average_bits : to_bits binary64 (average c s c' s' factor 2) ≡ 0x40111f2bf4ae6554
unfolding c s c' s' factor table line triangle_sum of_bits to_bits lib.Ieee.add lib.Ieee.mul lib.Ieee.div
average_bits = refl

grid_bits : to_bits binary64 (grid_value P factor c s cos sin 2) ≡ 0xc01c014ef94fe706
unfolding P factor c s cos sin table line running_sum column_sum of_bits to_bits lib.Ieee.add lib.Ieee.mul
grid_bits = refl
