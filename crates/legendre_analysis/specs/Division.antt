-- The entries of each degree over its factor. Assumes nothing.
use Rattle.std.specs.Prelude.{◌≡◌, refl, true, false, cond, List, ℕ, ◌+◌, ◌<◌, length, get_or, Float}
use Rattle.std.proofs.Common.{sym, ap, ap₂, ◌∙◌, zero-add, arith}
use Rattle.std.specs.Float.{nan}
use Rattle.std.specs.Float.Ieee.{eq}
use Rattle.number.specs.Float64.{◌⊘◌, zero64}
use Rattle.storage.specs.Elements.{zero_at, from, from_zero}
use Rattle.storage.specs.Filled.{Filled, filled_same, filled_in, filled_after}
use Rattle.storage.specs.Triangle.{row_start, idx, table_size, along, along_same, rows_more}

-- x over the factor, and +0.0 where the factor equals 0, of either sign
unfoldable pub divided : Float → Float → Float
divided factor x = cond (eq factor zero64) zero64 (x ⊘ factor)

-- the entries that start at index at, over a factor
unfoldable pub quotient_row : Float → ℕ → List Float → ℕ → Float
quotient_row factor at c m = get_or c (at + m) nan ⊘ factor

unfoldable pub divided_row : Float → ℕ → List Float → ℕ → Float
divided_row factor at c m = divided factor (get_or c (at + m) nan)

unfoldable pub divided_cell : (ℕ → Float) → List Float → ℕ → ℕ → Float
divided_cell factor c n m = divided (factor n) (get_or c (idx n m) nan)

-- the two ways through the test of the factor
module _ (n : ℕ) (factor : Float) {at : ℕ} {c c' : List Float} where
  pub degree_cleared : eq factor zero64 ≡ true → Filled at zero_at (n + 1) c c' → Filled at (divided_row factor at c) (n + 1) c c'
  unfolding divided_row divided
  degree_cleared e r = filled_same (divided_row factor at c) r (λ m h. rw e refl)

  pub degree_over : eq factor zero64 ≡ false → Filled at (quotient_row factor at c) (n + 1) c c' → Filled at (divided_row factor at c) (n + 1) c c'
  unfolding divided_row divided quotient_row
  degree_over e r = filled_same (divided_row factor at c) r (λ m h. rw e refl)

-- degree n divided after the degrees below it
pub degrees_divided : (n : ℕ) (factors : List Float) {at : ℕ} {d l l' : List Float} → Filled 0 (along (divided_cell (from 0 factors nan) d)) (row_start n) d l
    → Filled at (divided_row (get_or factors n nan) at l) (n + 1) l l' → at ≡ row_start n
    → Filled 0 (along (divided_cell (from 0 factors nan) d)) (row_start (n + 1)) d l'
unfolding divided_row divided_cell
degrees_divided n factors {at} {d} {l} below row e =
    rows_more (divided_cell (from 0 factors nan) d) n below
    (filled_same (divided_cell (from 0 factors nan) d n) row
    (λ m h.
    ap₂ divided (sym (from_zero factors nan n))
    (ap (λ (i : ℕ). get_or l (i + m) nan) e ∙ filled_after (idx n m) nan below (omega arith))))
    refl (e ∙ sym (zero-add (row_start n))) refl

-- the same with factors that stand in a list
pub divided_by : (factor : ℕ → Float) (N : ℕ) {f f₀ d l : List Float} → Filled 0 factor (N + 1) f₀ f → N < length f₀
    → Filled 0 (along (divided_cell (from 0 f nan) d)) (table_size N) d l → Filled 0 (along (divided_cell factor d)) (table_size N) d l
unfolding divided_cell
divided_by factor N {f} {f₀} {d} all room r =
    filled_same (along (divided_cell factor d)) r
    (along_same (divided_cell (from 0 f nan) d) (divided_cell factor d) N
    (λ n m h l.
    ap (λ (v : Float). divided v (get_or d (idx n m) nan))
    (from_zero f nan n ∙ filled_in {j = n} nan all (omega arith) (sym (zero-add n)) (omega arith))))
