-- Document 01: a grid row depends on its own pair and no other row's. Of what the call leaves in its output: with the pair of row k changed, the numbers
-- of every other row are what they were. Assumes nothing.
use Rattle.std.specs.Prelude.{◌≡◌, refl, List, ℕ, ◌+◌, ◌*◌, ◌≤◌, ◌<◌, length, get_or, set, Float}
use Rattle.std.proofs.Common.{sym, ◌∙◌, mul-le-mul_right, arith}
use Rattle.std.specs.Float.{nan}
use Rattle.storage.specs.Fill.{fill}
use Rattle.storage.specs.Filled.{filled}
use Rattle.storage.specs.Rectangle.{by_rows, by_rows_at}
use Rattle.synthesis.specs.Grid.{grid_cell}
use Rattle.synthesis.specs.Rows.{other_pair}

module _ (factor : ℕ → Float) (c s trig : List Float) (N rows longitudes : ℕ) where
  -- what an accepted call leaves in its output o
  abbrev pub grid_of : List Float → List Float → List Float
  grid_of lats o = fill 0 (by_rows (grid_cell factor lats c s trig N) longitudes) (rows * longitudes) o

  -- of two calls, whose outputs held o and o' before
  pub other_rows_stay : (lats o o' : List Float) (k : ℕ) (t u : Float) (i j : ℕ) → rows * longitudes ≤ length o → rows * longitudes ≤ length o'
      → (i ≡ k → ⊥) → i < rows → j < longitudes
      → get_or (grid_of (set (set lats (k + k) t) (k + k + 1) u) o') (i * longitudes + j) nan ≡ get_or (grid_of lats o) (i * longitudes + j) nan
  other_rows_stay lats o o' k t u i j room room' d hi hj =
      let up = mul-le-mul_right longitudes hi in
      let F = grid_cell factor (set (set lats (k + k) t) (k + k + 1) u) c s trig N in
      let G = grid_cell factor lats c s trig N in
      by_rows_at F longitudes i j nan (filled 0 (by_rows F longitudes) (rows * longitudes) o' refl) hj (omega arith) room'
      ∙ other_pair factor lats c s trig N i k j t u d
      ∙ sym (by_rows_at G longitudes i j nan (filled 0 (by_rows G longitudes) (rows * longitudes) o refl) hj (omega arith) room)
