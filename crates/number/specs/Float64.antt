-- Doubles by short names: the four operations, in the order in which code writes them, and constants. Definitions only.
use Rattle.std.specs.Prelude.{ℕ, pos, Float}
use Rattle.std.specs.Float.{binary64}
use Rattle.std.specs.Float.Ieee.{of_bits, of_int, add, sub, mul, div}

infixl 65 ◌⊕◌
infixl 65 ◌⊖◌
infixl 70 ◌⊗◌
infixl 70 ◌⊘◌
-- sum, difference, product and quotient, each rounded once to the nearest double, ties to even
abbrev pub ◌⊕◌ : Float → Float → Float
x ⊕ y = add binary64 x y

abbrev pub ◌⊖◌ : Float → Float → Float
x ⊖ y = sub binary64 x y

abbrev pub ◌⊗◌ : Float → Float → Float
x ⊗ y = mul binary64 x y

abbrev pub ◌⊘◌ : Float → Float → Float
x ⊘ y = div binary64 x y

-- the double with a bit pattern, as code writes each constant
abbrev pub double : ℕ → Float
double bits = of_bits binary64 bits

-- a whole number as a double
abbrev pub of_whole : ℕ → Float
of_whole n = of_int binary64 (pos n)

abbrev pub zero64 : Float
zero64 = double 0

abbrev pub one64 : Float
one64 = double 0x3ff0_0000_0000_0000

abbrev pub two64 : Float
two64 = double 0x4000_0000_0000_0000

abbrev pub three64 : Float
three64 = double 0x4008_0000_0000_0000
