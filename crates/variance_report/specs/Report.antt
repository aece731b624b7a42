-- What the program `variances` prints for the bytes that it reads, by document 01, in ASCII. Definitions only.
use Rattle.std.specs.Prelude.{ℕ, zero, suc, ◌+◌, ◌/◌, ◌%◌, cond, List, [], ◌∷◌, ◌++◌, map, ltb, Float, Err, Ok, Result}
use Rattle.std.specs.Float.{binary64}
use Rattle.std.specs.Float.Ieee.{of_bits, to_bits}
use Rattle.refusal.specs.declared.Refusal.{Refusal}
use Rattle.refusal.specs.declared.Refusal.TheVariants.{Size}
use Rattle.refusal.specs.Numbers.{refusal_number}
use Rattle.storage.specs.Tabulate.{tabulate}
use Rattle.text.specs.Digits.{decimal_digits}
use Rattle.coefficients.specs.Values.{variance_of}
use Rattle.model_file.specs.declared.FileHead.{FileHead}
use Rattle.model_file.specs.Format.{head_of, Parsed, model, fault, parse}

-- the numbers of bit patterns
abbrev pub numbers_of : List ℕ → List Float
numbers_of bits = map (of_bits binary64) bits

-- a hexadecimal digit: 0 to 9 from 48 on, a to f from 97 on
unfoldable pub hex_digit : ℕ → ℕ
hex_digit d = cond (ltb d 10) (48 + d) (87 + d)

-- the last k hexadecimal digits of x, the highest first
unfoldable pub hex_digits : ℕ → ℕ → List ℕ
hex_digits zero x = []
hex_digits (suc k) x = hex_digits k (x / 16) ++ (hex_digit (x % 16) ∷ [])

-- a degree's line: its digits, a space, the 16 digits of a bit pattern, and the line's end
unfoldable pub line_of : ℕ → ℕ → List ℕ
line_of n bits = decimal_digits n ++ (32 ∷ (hex_digits 16 bits ++ (10 ∷ [])))

-- the lines of the variances vs, the first of them of degree n; `to_bits` gives any NaN as 7ff8000000000000
unfoldable pub lines_of : List Float → ℕ → List ℕ
lines_of [] n = []
lines_of (v ∷ vs) n = line_of n (to_bits binary64 v) ++ lines_of vs (n + 1)

-- the line "degree variance"
unfoldable pub title_text : List ℕ
title_text = 100 ∷ 101 ∷ 103 ∷ 114 ∷ 101 ∷ 101 ∷ 32 ∷ 118 ∷ 97 ∷ 114 ∷ 105 ∷ 97 ∷ 110 ∷ 99 ∷ 101 ∷ 10 ∷ []

-- the line "refused " with the number of the refusal
unfoldable pub refused_text : Refusal → List ℕ
refused_text e = 114 ∷ 101 ∷ 102 ∷ 117 ∷ 115 ∷ 101 ∷ 100 ∷ 32 ∷ (48 + refusal_number e) ∷ 10 ∷ []

-- the text for a model up to degree N, given by the bit patterns of its coefficients
unfoldable pub model_text : ℕ → List ℕ → List ℕ → List ℕ
model_text N c s = title_text ++ lines_of (tabulate (variance_of (numbers_of c) (numbers_of s)) 0 (N + 1)) 0

abbrev pub parsed_text : Parsed → List ℕ
parsed_text (model h c s) = model_text h.nmax c s
parsed_text (fault e) = refused_text e

-- a head with a degree above 86 is refused by its size, whatever stands behind it
abbrev pub head_text : Result FileHead Refusal → List ℕ → List ℕ
head_text (Ok h) b = cond (ltb 86 h.nmax) (refused_text Size) (parsed_text (parse b))
head_text (Err e) b = refused_text e

-- what the program prints for the bytes b
unfoldable pub report_of : List ℕ → List ℕ
report_of b = head_text (head_of b) b
