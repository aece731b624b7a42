-- Demand 3's words at fixed numbers, so that a change of these words is noticed: what is at most 1 in size, F, the two powers of two, a
-- grid's terms, and values that miss their margins. Assumes nothing.
use Rattle.std.specs.Prelude.{◌≡◌, refl, [], ◌∷◌, ℕ, ◌*◌, ◌^◌, pos, neg_ℤ, leb, Float}
use Rattle.std.proofs.Common.{arith, leb→le, le→leb}
use Rattle.std.specs.Float.{binary64}
use Rattle.std.specs.Float.Ieee.{of_bits}
use Rattle.number.specs.Float64.{double, zero64, one64}
use Rattle.number.specs.Units.{units_of}
use Rattle.rounding.specs.Units.{exact}
use Rattle.rounding.specs.Sums.{line_total, triangle_total, line_total_ℤ, triangle_total_ℤ}
use Rattle.rounding.specs.Margins.{one_in_units, largest_factor, AtMostOne, TableAtMostOne, LineAtMostOne}
use Rattle.rounding.specs.Margins.{average_relative, average_absolute, average_term_c, average_term_s, average_pair, average_pair_size, AverageWithin}
use Rattle.rounding.specs.Margins.{grid_relative, grid_absolute, grid_term_c, grid_term_s, grid_pair, grid_pair_size, GridWithin}
use Rattle.rounding.specs.Examples.{constant, line}

-- ---- 1.0 is at most 1 in size, and the next double is not
one_is_one : units_of binary64 one64 ≡ one_in_units
unfolding units_of one_in_units of_bits
one_is_one = refl

one_at_most_one : AtMostOne one64
unfolding units_of one_in_units of_bits
one_at_most_one = leb→le (2 ^ 1074) (2 ^ 1074) tt

-- the double behind 1.0
abbrev next : Float
next = double 0x3ff0_0000_0000_0001

pub next_above_one : AtMostOne next → ⊥
unfolding units_of one_in_units of_bits
next_above_one h = le→leb _ _ h

-- so with tables and lines: ones pass at every degree, and one number above 1 is refused
pub ones_in_a_table : (N : ℕ) → TableAtMostOne N (λ n m. one64)
ones_in_a_table N n m h k = one_at_most_one

pub ones_in_a_line : (N : ℕ) → LineAtMostOne N (λ m. one64)
ones_in_a_line N m h = one_at_most_one

pub next_in_a_table : (N : ℕ) → TableAtMostOne N (λ n m. next) → ⊥
next_in_a_table N h = next_above_one (h 0 0 (omega arith) (omega arith))

pub next_in_a_line : (N : ℕ) → LineAtMostOne N (λ m. next) → ⊥
next_in_a_line N h = next_above_one (h 0 (omega arith))

-- ---- F of the factors 2, -3 and 0.5 is 3, of 0.5 alone it is 1
largest_of_three : largest_factor (line (0x4000000000000000 ∷ 0xc008000000000000 ∷ 0x3fe0000000000000 ∷ [])) 3 ≡ 3 * 2 ^ 1074
unfolding largest_factor one_in_units units_of line of_bits
largest_of_three = refl

largest_of_one : largest_factor (line (0x3fe0000000000000 ∷ [])) 1 ≡ 2 ^ 1074
unfolding largest_factor one_in_units units_of line of_bits
largest_of_one = refl

-- ---- the absolute part of an average with six pairs and F = 1: 3 * 6 * 1 + 1
absolute_of_six_pairs : average_absolute (line (0x3ff0000000000000 ∷ 0x3ff0000000000000 ∷ 0x3ff0000000000000 ∷ [])) 2 ≡ 19 * 2 ^ 1074
unfolding average_absolute largest_factor one_in_units units_of line of_bits
absolute_of_six_pairs = refl

-- ---- the power of two that makes both sides whole
grid_power : one_in_units * one_in_units * one_in_units * one_in_units * 2 ^ 53 ≡ 2 ^ 4349
unfolding one_in_units
grid_power = refl

average_power : one_in_units * one_in_units * one_in_units * 2 ^ 53 ≡ 2 ^ 3275
unfolding one_in_units
average_power = refl

-- ---- a grid's terms 2 * 3 * 1 * 0.5 and 2 * 3 * -5 * 1, each counted by itself: their sum is -27, their sizes add up to 33
grid_pair_sum : grid_pair (constant 0x4008000000000000) (constant 0x4000000000000000 0) (constant 0x3ff0000000000000) (constant 0xc014000000000000)
    (constant 0x3fe0000000000000 0) (constant 0x3ff0000000000000 0) 0 0 ≡ neg_ℤ (pos (27 * 2 ^ 4296))
unfolding grid_pair grid_term_c grid_term_s constant exact of_bits
grid_pair_sum = refl

grid_pair_size_lem : grid_pair_size (constant 0x4008000000000000) (constant 0x4000000000000000 0) (constant 0x3ff0000000000000) (constant 0xc014000000000000)
    (constant 0x3fe0000000000000 0) (constant 0x3ff0000000000000 0) 0 0 ≡ 33 * 2 ^ 4296
unfolding grid_pair_size grid_term_c grid_term_s constant exact of_bits
grid_pair_size_lem = refl

-- ---- the margins are no empty promise: where the exact sum is 1, neither 0 nor a number four units in the last place above 1 is within
abbrev ones : ℕ → ℕ → Float
ones n m = one64

abbrev zeros : ℕ → ℕ → Float
zeros n m = zero64

abbrev Average : Float → Type 0
Average v = AverageWithin ones zeros ones zeros (ones 0) 0 v

abbrev Grid : Float → Type 0
Grid v = GridWithin ones (ones 0) ones zeros (ones 0) (zeros 0) 0 v

-- of an average, where the margin is three units and a little
zero_is_no_average : Average zero64 → ⊥
unfolding AverageWithin average_pair average_pair_size average_term_c average_term_s triangle_total triangle_total_ℤ line_total line_total_ℤ average_relative average_absolute
    largest_factor one_in_units units_of exact of_bits
zero_is_no_average h = le→leb _ _ h

four_units_are_no_average : Average (double 0x3ff0_0000_0000_0004) → ⊥
unfolding AverageWithin average_pair average_pair_size average_term_c average_term_s triangle_total triangle_total_ℤ line_total line_total_ℤ average_relative average_absolute
    largest_factor one_in_units units_of exact of_bits
four_units_are_no_average h = le→leb _ _ h

-- of a grid value, where it is three and a half
zero_is_no_grid_value : Grid zero64 → ⊥
unfolding GridWithin grid_pair grid_pair_size grid_term_c grid_term_s triangle_total triangle_total_ℤ line_total line_total_ℤ grid_relative grid_absolute one_in_units exact of_bits
zero_is_no_grid_value h = le→leb _ _ h

four_units_are_no_grid_value : Grid (double 0x3ff0_0000_0000_0004) → ⊥
unfolding GridWithin grid_pair grid_pair_size grid_term_c grid_term_s triangle_total triangle_total_ℤ line_total line_total_ℤ grid_relative grid_absolute one_in_units exact of_bits
four_units_are_no_grid_value h = le→leb _ _ h

-- where all terms are zero the absolute part stands alone: of one pair with F = 1, six units of 2 ^ -1074 for a grid value and four for an average
abbrev NoAverage : Float → Type 0
NoAverage v = AverageWithin zeros zeros ones zeros (ones 0) 0 v

abbrev NoGrid : Float → Type 0
NoGrid v = GridWithin ones (ones 0) zeros zeros (ones 0) (zeros 0) 0 v

four_are_an_average : NoAverage (double 4)
unfolding AverageWithin average_pair average_pair_size average_term_c average_term_s triangle_total triangle_total_ℤ line_total line_total_ℤ average_relative average_absolute
    largest_factor one_in_units units_of exact of_bits
four_are_an_average = leb→le _ _ tt

five_are_no_average : NoAverage (double 5) → ⊥
unfolding AverageWithin average_pair average_pair_size average_term_c average_term_s triangle_total triangle_total_ℤ line_total line_total_ℤ average_relative average_absolute
    largest_factor one_in_units units_of exact of_bits
five_are_no_average h = le→leb _ _ h

six_are_a_grid_value : NoGrid (double 6)
unfolding GridWithin grid_pair grid_pair_size grid_term_c grid_term_s triangle_total triangle_total_ℤ line_total line_total_ℤ grid_relative grid_absolute one_in_units exact of_bits
six_are_a_grid_value = leb→le _ _ tt

seven_are_no_grid_value : NoGrid (double 7) → ⊥
unfolding GridWithin grid_pair grid_pair_size grid_term_c grid_term_s triangle_total triangle_total_ℤ line_total line_total_ℤ grid_relative grid_absolute one_in_units exact of_bits
seven_are_no_grid_value h = le→leb _ _ h
