-- A line of a replay, in ASCII. Definitions only.
use Rattle.std.specs.Prelude.{List, [], ◌∷◌, ◌++◌, ℕ, length, Float}
use Rattle.text.specs.Digits.{decimal_digits}
use Rattle.replay.specs.Answers.{numbers_due, words_due}

-- " of "
abbrev pub of_text : List ℕ
of_text = 32 ∷ 111 ∷ 102 ∷ 32 ∷ []

-- the name, how many are right, " of ", how many there are, the line's end
unfoldable pub line_of : List ℕ → ℕ → ℕ → List ℕ
line_of name right all = name ++ (decimal_digits right ++ (of_text ++ (decimal_digits all ++ (10 ∷ []))))

-- the line of a list of numbers and the bit patterns from index at on
abbrev pub numbers_line : List ℕ → List Float → List ℕ → ℕ → List ℕ
numbers_line name answers words at = line_of name (numbers_due answers words at) (length answers)

-- the line of a list of words or bytes and those from index at on
abbrev pub words_line : List ℕ → List ℕ → List ℕ → ℕ → List ℕ
words_line name answers words at = line_of name (words_due answers words at) (length answers)
