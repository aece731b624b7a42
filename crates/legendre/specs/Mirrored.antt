-- What `mirror` and `mirror_derivative` make of a table, and the steps of the loops that do it in the table's own list. Assumes nothing.
use Rattle.std.specs.Prelude.{◌≡◌, List, ℕ, ◌+◌, ◌-◌, ◌%◌, ◌≤◌, ◌<◌, min, get_or, set, Float}
use Rattle.std.proofs.Math.Path.{refl}
use Rattle.std.proofs.Common.{sym, ap, ◌∙◌, zero-add, arith}
use Rattle.std.specs.Float.{nan}
use Rattle.std.specs.Float.Ieee.{neg}
use Rattle.number.specs.Parity.{is_odd, odd_is, even_is}
use Rattle.number.specs.Turned.{turned_if}
use Rattle.storage.specs.Elements.{from}
use Rattle.storage.specs.Filled.{Filled, filled_more, filled_after, filled_same, filled_standing, filled_first}
use Rattle.storage.specs.Triangle.{row_start, along, cells, rows_more}

-- row n, whose numbers are p: the number of order m times (-1) ^ (n - m + shift)
unfoldable pub mirrored_row : ℕ → ℕ → (ℕ → Float) → ℕ → Float
mirrored_row shift n p m = turned_if (is_odd (n - m + shift)) (p m)

-- the entry (n, m) of a table times (-1) ^ (n - m + shift): shift is 0 in `mirror` and 1 in `mirror_derivative`
unfoldable pub mirrored : ℕ → List Float → ℕ → ℕ → Float
mirrored shift table n = mirrored_row shift n (cells table nan n)

-- ---- along a row, from index at of d on
module _ (shift n at : ℕ) (d : List Float) where
  -- a number that stands
  stands : (m : ℕ) → (n - m + shift) % 2 ≡ 0 → get_or d (at + m) nan ≡ mirrored_row shift n (from at d nan) m
  unfolding mirrored_row from
  stands m e = rw (even_is (n - m + shift) e) refl

  -- a number whose sign turns
  turns : (m : ℕ) → (n - m + shift) % 2 ≡ 1 → neg (get_or d (at + m) nan) ≡ mirrored_row shift n (from at d nan) m
  unfolding mirrored_row from
  turns m e = rw (odd_is (n - m + shift) e) refl

  -- before the first number that turns
  pub row_first : (m : ℕ) → m ≡ (n + shift + 1) % 2 → Filled at (mirrored_row shift n (from at d nan)) (min m (n + 1)) d d
  row_first m e = filled_standing nan at d (min m (n + 1)) (λ j b. stands j (omega arith))

  -- with the next one turned, the one behind it stands, if the row has one
  pub row_next : (m : ℕ) {l : List Float} → Filled at (mirrored_row shift n (from at d nan)) (min m (n + 1)) d l → m ≤ n → (m + n + shift) % 2 ≡ 1
      → Filled at (mirrored_row shift n (from at d nan)) (min (m + 2) (n + 1)) d (set l (at + m) (neg (get_or l (at + m) nan)))
  row_next m {l} r h e =
      let F = mirrored_row shift n (from at d nan) in
      let k : min m (n + 1) ≡ m = omega arith in
      let value = ap neg (filled_after (at + m) nan r (omega arith)) ∙ turns m (omega arith) in
      let more = filled_more {i = at + m} {v = neg (get_or l (at + m) nan)} r (omega arith) (value ∙ ap F (sym k)) in
      filled_first F nan at (min m (n + 1) + 1) (min (m + 2) (n + 1)) more (omega arith) (λ j b. refl) (λ j a b. stands j (omega arith))

-- ---- along the rows of the table d, which are written up to row n
-- row n is read where nothing is written yet
pub mirrored_row_more : (shift n at : ℕ) {d l l' : List Float} → at ≡ row_start n → Filled 0 (along (mirrored shift d)) (row_start n) d l
    → Filled at (mirrored_row shift n (from at l nan)) (n + 1) l l' → Filled 0 (along (mirrored shift d)) (row_start (n + 1)) d l'
unfolding mirrored mirrored_row from cells
mirrored_row_more shift n at {d} {l} e below row =
    let same : (m : ℕ) → m < n + 1 → mirrored_row shift n (from at l nan) m ≡ mirrored shift d n m =
    λ m b. ap (λ (x : Float). turned_if (is_odd (n - m + shift)) x) (filled_after (at + m) nan below (omega arith) ∙ ap (λ (i : ℕ). get_or d (i + m) nan) e) in
    rows_more (mirrored shift d) n below (filled_same (mirrored shift d n) row same) refl (e ∙ sym (zero-add (row_start n))) refl
