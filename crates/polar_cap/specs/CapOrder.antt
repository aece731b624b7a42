-- What the parts make of one order: its vectors, how their solver ends, its concentration matrix and its concentrations. Assumes nothing.
use Rattle.std.specs.Prelude.{◌≡◌, refl, ℕ, ◌+◌, ◌*◌, ◌≤◌, ◌<◌, length, set, take, drop, Float}
use Rattle.std.proofs.Math.Path.{sym, ap}
use Rattle.std.proofs.Common.{◌∙◌, zero-add, arith}
use mathlib.Core.List.{List}
use Rattle.std.proofs.Math.ListN.{get_or}
use Rattle.std.proofs.Math.Seq.{get_or-drop, take_at}
use Rattle.std.specs.Float.Ieee.{nan}
use Rattle.number.specs.Float64.{of_whole}
use Rattle.storage.specs.Elements.{from, from_zero}
use Rattle.storage.specs.Filled.{Filled, filled_none, filled_more, filled_in, filled_same}
use Rattle.storage.specs.Rectangle.{by_rows, by_row, by_rows_more}
use Rattle.matrix.specs.Matrix.{cell, matrix_of, matrix_same, cell-within, length_matrix}
use Rattle.matrix.specs.Layout.{flipped, plain, filled_tabulate, copied_plain}
use Rattle.matrix.specs.declared.Convergence.{Convergence}
use Rattle.linalg.specs.Eigen.{eigen_vectors, eigen_convergence, eigen_limit}
use Rattle.linalg.specs.Limits.{eigen_count_limit, eigen_few}
use Rattle.linalg.specs.Solution.{settled_number}
use Rattle.linalg.specs.Sizes.{length_vectors}
use Rattle.caps.specs.Caps.{degrees, concentration_cell, concentration, grunbaum_cell, grunbaum, rayleigh}
use Rattle.polar_cap.specs.PolarCap.{vectors_of, convergence_of, told, told_of, coefficient, concentration_in}

module _ (L m : ℕ) (x₀ : Float) {k : ℕ} (hk : k ≡ degrees L m) where
  -- the matrix that was lent to the solver
  pub grunbaum_made : {size : ℕ} {g g' : List Float} → size ≡ k * k → Filled 0 (by_rows (grunbaum_cell L m x₀) k) (k * k) g g' → k * k ≤ length g
      → take size g' ≡ grunbaum L m x₀
  unfolding grunbaum matrix_of
  grunbaum_made {size} {g} {g'} e r h =
      ap (take size) (filled_tabulate r h)
      ∙ take_at (matrix_of k (grunbaum_cell L m x₀)) (drop (k * k) g) size (length_matrix k (grunbaum_cell L m x₀) ∙ sym e)
      ∙ ap (λ (n : ℕ). matrix_of n (grunbaum_cell L m x₀)) hk

  pub vectors_made : {a d l : List Float} → a ≡ grunbaum L m x₀ → Filled 0 (from 0 (eigen_vectors k a) nan) (k * k) d l
      → Filled 0 (from 0 (vectors_of L x₀ m) nan) (k * k) d l
  unfolding vectors_of
  vectors_made {a} e r =
      let same : eigen_vectors k a ≡ eigen_vectors (degrees L m) (grunbaum L m x₀) =
      ap (eigen_vectors k) e ∙ ap (λ (n : ℕ). eigen_vectors n (grunbaum L m x₀)) hk in
      filled_same (from 0 (eigen_vectors (degrees L m) (grunbaum L m x₀)) nan) r (λ i h. ap (λ (v : List Float). from 0 v nan i) same)

  -- how the solver ended
  pub convergence_made : {a : List Float} {x : Convergence} → a ≡ grunbaum L m x₀ → x ≡ eigen_convergence k a → x ≡ convergence_of L x₀ m
  unfolding convergence_of
  convergence_made e h = h ∙ ap (eigen_convergence k) e ∙ ap (λ (n : ℕ). eigen_convergence n (grunbaum L m x₀)) hk

  module _ {d vs : List Float} (r : Filled 0 (from 0 (vectors_of L x₀ m) nan) (k * k) d vs) (h : k * k ≤ length d) where
    plain_vectors : plain k vs ≡ vectors_of L x₀ m
    unfolding vectors_of
    plain_vectors =
        copied_plain k (vectors_of L x₀ m) r
        (length_vectors (degrees L m) (grunbaum L m x₀) ∙ ap (λ (n : ℕ). n * n) (sym hk)) h

    -- a column of the vectors, stored as a row
    pub coefficient_made : (col i : ℕ) → col < k → i < k → by_rows (flipped (cell k vs)) k (col * k + i) ≡ coefficient L x₀ (m, col) i
    unfolding flipped cell coefficient
    coefficient_made col i b c =
        by_row (flipped (cell k vs)) k col i c
        ∙ filled_in {j = i * k + col} nan r (cell-within k i col c b) (sym (zero-add (i * k + col))) (omega (arith, cell-within k i col c b))
        ∙ from_zero (vectors_of L x₀ m) nan (i * k + col)
        ∙ ap (λ (n : ℕ). get_or (vectors_of L x₀ m) (i * n + col) nan) hk

    module _ (weights lats : List Float) {at : ℕ} {w w' : List Float} (s : Filled at (by_rows (concentration_cell L m x₀ weights lats) k) (k * k) w w')
        (room : at + k * k ≤ length w) where
      plain_matrix : plain k (drop at w') ≡ concentration L m x₀ weights lats
      unfolding plain concentration cell
      plain_matrix =
          matrix_same k (cell k (drop at w')) (concentration_cell L m x₀ weights lats)
          (λ i j b c.
          let inside = cell-within k i j b c in
          get_or-drop at w' (i * k + j) nan
          ∙ filled_in {j = i * k + j} nan s inside (omega arith) (omega arith)
          ∙ by_row (concentration_cell L m x₀ weights lats) k i j c)
          ∙ ap (λ (n : ℕ). matrix_of n (concentration_cell L m x₀ weights lats)) hk

      pub quotients_made : {o o' : List Float} → Filled 0 (rayleigh k (plain k (drop at w')) (plain k vs)) k o o'
          → Filled 0 (concentration_in L x₀ weights lats m) k o o'
      unfolding concentration_in
      quotients_made q = filled_same (concentration_in L x₀ weights lats m) q (λ col b. cc (plain_vectors, plain_matrix, hk))

-- ---- how the solver of an order ended, told in two numbers
-- the limit of its count, by the degrees of the order
pub convergence_limit : (L m : ℕ) (x₀ : Float) → (convergence_of L x₀ m).count ≤ eigen_limit (degrees L m)
unfolding convergence_of
convergence_limit L m x₀ = eigen_count_limit (degrees L m) (grunbaum L m x₀)

-- in numbers, far below those that a double has not exactly
pub convergence_few : (L m : ℕ) (x₀ : Float) → L ≤ 180 → (convergence_of L x₀ m).count ≤ 51200
unfolding convergence_of
convergence_few L m x₀ h = eigen_few (degrees L m) (grunbaum L m x₀) (omega arith)

-- the flag is stored, and the count behind it
pub told_stored : {at i j n : ℕ} (x : Convergence) (d : List Float) → n ≡ settled_number x.settled → i ≡ at → j ≡ at + 1
    → Filled at (told x) 2 d (set (set d i (of_whole n)) j (of_whole x.count))
unfolding told
told_stored x d e p q = filled_more (filled_more filled_none (omega arith) (ap of_whole e)) q refl

-- the two numbers of order m behind those of the orders before it
pub told_more : {x : Convergence} {d l l' : List Float} (L m : ℕ) (x₀ : Float) → x ≡ convergence_of L x₀ m → Filled 0 (by_rows (told_of L x₀) 2) (m * 2) d l
    → Filled (m * 2) (told x) 2 l l' → Filled 0 (by_rows (told_of L x₀) 2) ((m + 1) * 2) d l'
unfolding told_of
told_more L m x₀ e r s =
    by_rows_more (told_of L x₀) 2 m r (filled_same (told_of L x₀ m) s (λ i h. ap (λ (y : Convergence). told y i) e)) refl refl
