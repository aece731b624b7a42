-- What demand 3 asks of a grid's numbers, at fixed ones: all ones are accepted at every degree, and in each of the four places a number above 1 is
-- refused, so that the premise of the margin can't become an empty or a narrower one unnoticed. Assumes nothing.
use Rattle.std.specs.Prelude.{ℕ, Float}
use Rattle.number.specs.Float64.{double, one64}
use Rattle.rounding.specs.Controls.{ones_in_a_table, ones_in_a_line, next_in_a_table, next_in_a_line}
use Rattle.synthesis.specs.Grid.{SizesAtMostOne}

ones_are_accepted : (N : ℕ) → SizesAtMostOne N (λ n m. one64) (λ n m. one64) (λ m. one64) (λ m. one64)
ones_are_accepted N = record {
  of_c = ones_in_a_table N;
  of_s = ones_in_a_table N;
  of_cos = ones_in_a_line N;
  of_sin = ones_in_a_line N;
}

-- the double behind 1.0
abbrev next : Float
next = double 0x3ff0_0000_0000_0001

no_larger_c : (N : ℕ) (s : ℕ → ℕ → Float) (cos sin : ℕ → Float) → SizesAtMostOne N (λ n m. next) s cos sin → ⊥
no_larger_c N s cos sin h = next_in_a_table N h.of_c

no_larger_s : (N : ℕ) (c : ℕ → ℕ → Float) (cos sin : ℕ → Float) → SizesAtMostOne N c (λ n m. next) cos sin → ⊥
no_larger_s N c cos sin h = next_in_a_table N h.of_s

no_larger_cosine : (N : ℕ) (c s : ℕ → ℕ → Float) (sin : ℕ → Float) → SizesAtMostOne N c s (λ m. next) sin → ⊥
no_larger_cosine N c s sin h = next_in_a_line N h.of_cos

no_larger_sine : (N : ℕ) (c s : ℕ → ℕ → Float) (cos : ℕ → Float) → SizesAtMostOne N c s cos (λ m. next) → ⊥
no_larger_sine N c s cos h = next_in_a_line N h.of_sin
