-- The matrix divided by 4π, and its lower half copied to the upper. Assumes nothing.
use Rattle.std.specs.Prelude.{◌≡◌, cond, List, ℕ, ◌+◌, ◌-◌, ◌*◌, ◌≤◌, ◌<◌, ltb, Float}
use Rattle.std.proofs.Math.Path.{refl, sym}
use Rattle.std.proofs.Common.{ap, ◌∙◌, lt-ltb, le-ltb}
use Rattle.std.proofs.Math.Nat.{mul-le-mul_right}
use native.Mathlib.Omega.{arith}
use Rattle.std.proofs.Math.ListN.{get_or}
use Rattle.std.specs.Float.Ieee.{nan}
use Rattle.number.specs.Float64.{◌⊘◌}
use Rattle.storage.specs.Filled.{Filled, filled_after, filled_last}
use Rattle.storage.specs.Rectangle.{by_rows, by_rows_more}
use Rattle.matrix.specs.Matrix.{cell}
use Rattle.region_nodes.specs.Regions.{four_pi}

unfoldable pub over_four_pi : List Float → ℕ → Float
over_four_pi d k = get_or d k nan ⊘ four_pi

-- column i below the diagonal
unfoldable pub below_diagonal : ℕ → ℕ → List Float → ℕ → Float
below_diagonal n i d k = cell n d (i + 1 + k) i

-- the matrix d with its lower half in both
unfoldable pub mirrored : ℕ → List Float → ℕ → ℕ → Float
mirrored n d i j = cond (ltb i j) (cell n d j i) (cell n d i j)

-- the next number of a row is read from a place behind all that is written
pub below_next : (n i k : ℕ) (d : List Float) {at from : ℕ} {l : List Float} → at ≡ i * n + (i + 1) → from ≡ (i + 1 + k) * n + i → i + 1 + k < n
    → Filled at (below_diagonal n i d) k d l → get_or l from nan ≡ below_diagonal n i d k
unfolding below_diagonal cell
below_next n i k d {at} {from} p q h r =
    filled_after from nan r (omega (arith, mul-le-mul_right n (let e : i + 1 ≤ i + 1 + k = omega arith in e))) ∙ ap (λ (x : ℕ). get_or d x nan) q

module _ (n : ℕ) (d : List Float) where
  pub mirrored-left : (i j : ℕ) → j ≤ i → mirrored n d i j ≡ cell n d i j
  unfolding mirrored
  mirrored-left i j h = rw (le-ltb i j h) refl

  pub mirrored_right : (i j : ℕ) → i < j → mirrored n d i j ≡ cell n d j i
  unfolding mirrored
  mirrored_right i j h = rw (lt-ltb i j h) refl

  -- row i, of which the numbers up to the diagonal stand, behind the rows before it
  pub mirror_more : (i : ℕ) {at : ℕ} {l l' : List Float} → i < n → at ≡ i * n + (i + 1) → Filled 0 (by_rows (mirrored n d) n) (i * n) d l
      → Filled at (below_diagonal n i l) (n - (i + 1)) l l' → Filled 0 (by_rows (mirrored n d) n) ((i + 1) * n) d l'
  unfolding below_diagonal cell
  mirror_more i {at} {l} h p below new =
      let old : (j : ℕ) → j < i + 1 → get_or l (i * n + j) nan ≡ mirrored n d i j =
      λ j b. filled_after (i * n + j) nan below (omega arith) ∙ sym (mirrored-left i j (omega arith)) in
      let right : (j : ℕ) → j < n - (i + 1) → mirrored n d i (i + 1 + j) ≡ get_or l ((i + 1 + j) * n + i) nan =
      λ j b.
      mirrored_right i (i + 1 + j) (omega arith)
      ∙ sym
      (filled_after ((i + 1 + j) * n + i) nan below (omega (arith, mul-le-mul_right n (let e : i ≤ i + 1 + j = omega arith in e)))) in
      by_rows_more (mirrored n d) n i below (filled_last (mirrored n d i) nan (i * n) (i + 1) n new p (omega arith) old right) refl refl
