-- Answers and what is due. Definitions only.
use Rattle.std.specs.Prelude.{cond, List, ℕ, ◌+◌, eqb, length, get_or, Float}
use Rattle.std.specs.Float.{nan, binary64}
use Rattle.std.specs.Float.Ieee.{of_bits, to_bits}
use Rattle.storage.specs.Fold.{fold_left}

-- the number whose bit pattern stands k after index at
unfoldable pub number_at : List ℕ → ℕ → ℕ → Float
number_at words at k = of_bits binary64 (get_or words (at + k) 0)

-- 1 where the number at index k has the bit pattern that stands k after index at
unfoldable pub agrees_at : List Float → List ℕ → ℕ → ℕ → ℕ
agrees_at list words at k = cond (eqb (to_bits binary64 (get_or list k nan)) (get_or words (at + k) 0)) 1 0

-- 1 where the word at index k is the one that stands k after index at
unfoldable pub equal_at : List ℕ → List ℕ → ℕ → ℕ → ℕ
equal_at list words at k = cond (eqb (get_or list k 0) (get_or words (at + k) 0)) 1 0

-- how many numbers of a list have the bit patterns due
abbrev pub numbers_due : List Float → List ℕ → ℕ → ℕ
numbers_due list words at = fold_left ◌+◌ (agrees_at list words at) 0 (length list)

-- how many words or bytes of a list are those due
abbrev pub words_due : List ℕ → List ℕ → ℕ → ℕ
words_due list words at = fold_left ◌+◌ (equal_at list words at) 0 (length list)
