-- The numbers of Grünbaum's matrix, one law for each kind. Assumes nothing.
use Rattle.std.specs.Prelude.{◌≡◌, ℕ, ◌+◌, Float}
use Rattle.std.proofs.Common.{arith}
use borrow.Author.Tests.{eq-eqb, ne_eqb}
use Rattle.number.specs.Float64.{zero64}
use Rattle.caps.specs.Caps.{grunbaum_diagonal, grunbaum_beside, grunbaum_cell}

module _ (L m : ℕ) (x₀ : Float) (i j : ℕ) where
  pub cell-diagonal : i ≡ j → grunbaum_diagonal m x₀ i ≡ grunbaum_cell L m x₀ i j
  unfolding grunbaum_cell
  cell-diagonal h = simp (eq-eqb i j h)

  pub cell_right : i + 1 ≡ j → grunbaum_beside L m i ≡ grunbaum_cell L m x₀ i j
  unfolding grunbaum_cell
  cell_right h = simp (ne_eqb i j (λ e. omega arith), eq-eqb (i + 1) j h)

  pub cell-left : j + 1 ≡ i → grunbaum_beside L m j ≡ grunbaum_cell L m x₀ i j
  unfolding grunbaum_cell
  cell-left h = simp (ne_eqb i j (λ e. omega arith), ne_eqb (i + 1) j (λ e. omega arith), eq-eqb (j + 1) i h)

  pub cell_zero : (i ≡ j → ⊥) → (i + 1 ≡ j → ⊥) → (j + 1 ≡ i → ⊥) → zero64 ≡ grunbaum_cell L m x₀ i j
  unfolding grunbaum_cell
  cell_zero a b c = simp (ne_eqb i j a, ne_eqb (i + 1) j b, ne_eqb (j + 1) i c)
