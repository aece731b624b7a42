-- A line by its parts, as the code stores them. Assumes nothing.
use mathlib.Core.Path.{◌≡◌, ◌∙◌}
use Prim.Native.Nat.{ℕ, ◌+◌}
use native.Mathlib.Omega.{arith}
use mathlib.Core.List.{List, [], ◌∷◌, ◌++◌}
use lib.ListN.{length, set, length-append}
use Rattle.storage.specs.Store.{store}
use Rattle.text.specs.Stored.{store_one, store_next}
use Rattle.text.specs.Digits.{decimal_digits}
use Rattle.replay.specs.Line.{of_text, line_of}

module _ (name : List ℕ) (right all : ℕ) where
  last : List ℕ
  last = decimal_digits all ++ (10 ∷ [])

  pub length-line : length (line_of name right all) ≡ length name + length (decimal_digits right) + 4 + length (decimal_digits all) + 1
  unfolding line_of last
  length-line =
      length-append name (decimal_digits right ++ (of_text ++ last))
      ∙ omega (arith, length-append (decimal_digits right) (of_text ++ last), length-append of_text last, length-append (decimal_digits all) (10 ∷ []))

  pub line_parts : (d d₁ d₂ d₃ d₄ : List ℕ) (p₁ p₂ p₃ p₄ : ℕ) → p₁ ≡ 0 + length name → d₁ ≡ store 0 name d
      → p₂ ≡ p₁ + length (decimal_digits right) → d₂ ≡ store p₁ (decimal_digits right) d₁ → p₃ ≡ p₂ + 4 → d₃ ≡ store p₂ of_text d₂
      → p₄ ≡ p₃ + length (decimal_digits all) → d₄ ≡ store p₃ (decimal_digits all) d₃ → set d₄ p₄ 10 ≡ store 0 (line_of name right all) d
  unfolding line_of last
  line_parts d d₁ d₂ d₃ d₄ p₁ p₂ p₃ p₄ e₁ s₁ e₂ s₂ e₃ s₃ e₄ s₄ =
      store_one p₄ 10 d₄
      ∙ store_next p₃ p₄ (decimal_digits all) (10 ∷ []) d₃ d₄ e₄ s₄
      ∙ store_next p₂ p₃ of_text last d₂ d₃ e₃ s₃
      ∙ store_next p₁ p₂ (decimal_digits right) (of_text ++ last) d₁ d₂ e₂ s₂
      ∙ store_next 0 p₁ name (decimal_digits right ++ (of_text ++ last)) d d₁ e₁ s₁
