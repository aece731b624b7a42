-- Rayleigh's quotients of all columns at once: the sums of a row, and the sums over the rows. Assumes nothing.
use Rattle.std.specs.Prelude.{◌≡◌, List, ℕ, ◌+◌, ◌*◌, ◌≤◌, ◌<◌, length, take, drop, Float}
use Rattle.std.proofs.Math.Path.{refl, sym, ap, ap₂}
use Rattle.std.proofs.Common.{◌∙◌, le_refl, zero-add, mul-le-mul_right}
use native.Mathlib.Omega.{arith}
use Rattle.std.proofs.Math.ListN.{get_or}
use Rattle.std.proofs.Math.Seq.{get_or-take, get_or-drop}
use Rattle.std.specs.Float.Ieee.{nan, binary64, of_bits}
use Rattle.number.specs.Float64.{◌⊕◌, ◌⊗◌}
use Rattle.storage.specs.Elements.{zero_at}
use Rattle.storage.specs.Filled.{Filled, filled_in, filled_same, filled_after, filled_again}
use Rattle.rounding.specs.Sums.{zero⁺, running_sum}
use Rattle.rounding.specs.SumSteps.{running_none, running_more, running_same}
use Rattle.matrix.specs.Matrix.{cell}
use Rattle.matrix.specs.Layout.{plain, cell-plain}
use Rattle.caps.specs.Caps.{inner_term, outer_term, rayleigh}
use Rattle.caps.specs.Nodes.{added_cell}

-- the row of w from index row on times column col of v, its first n products
unfoldable pub row_term : ℕ → ℕ → List Float → List Float → ℕ → ℕ → Float
row_term k row v w col j = get_or w (row + j) nan ⊗ get_or v (j * k + col) nan

unfoldable pub row_sum : ℕ → ℕ → List Float → List Float → ℕ → ℕ → Float
row_sum k row v w n col = running_sum binary64 (row_term k row v w col) n zero⁺

unfoldable pub added_product : ℕ → List Float → List Float → List Float → ℕ → Float
added_product at y v sums col = get_or sums col nan ⊕ get_or v (at + col) nan ⊗ get_or y col nan

-- the sum over the rows above row n of the matrix from index at of w on
unfoldable pub rows_term : ℕ → ℕ → List Float → List Float → ℕ → ℕ → Float
rows_term k at v w col i = get_or v (i * k + col) nan ⊗ row_sum k (at + i * k) v w k col

unfoldable pub rows_sum : ℕ → ℕ → List Float → List Float → ℕ → ℕ → Float
rows_sum k at v w n col = running_sum binary64 (rows_term k at v w col) n zero⁺

module _ (k row : ℕ) (v w : List Float) where
  pub row_none : {l : List Float} → Filled 0 zero_at k l l → Filled 0 (row_sum k row v w 0) k l l
  unfolding row_sum of_bits
  row_none r = filled_same (row_sum k row v w 0) r (λ col h. running_none binary64 _ zero⁺)

  -- one product more in each column; part is v from index at on
  pub row_more : (j at n : ℕ) {x : Float} {d l l' : List Float} → at ≡ j * k → k ≤ n → x ≡ get_or w (row + j) nan → k ≤ length d
      → Filled 0 (row_sum k row v w j) k d l → Filled 0 (added_cell x (take n (drop at v)) l 0) k l l' → Filled 0 (row_sum k row v w (j + 1)) k d l'
  unfolding row_sum row_term added_cell
  row_more j at n {x} {d} {l} e h ex room old new =
      filled_again old
      (filled_same (row_sum k row v w (j + 1)) new
      (λ col b.
      let a = filled_in {j = col} nan old b refl (omega arith) in
      let p : get_or (take n (drop at v)) col nan ≡ get_or v (j * k + col) nan =
      get_or-take n (drop at v) col nan (omega arith) ∙ get_or-drop at v col nan ∙ ap (λ (i : ℕ). get_or v (i + col) nan) e in
      ap₂ (λ (y z : Float). y ⊕ z) a (ap₂ (λ (y z : Float). y ⊗ z) ex p) ∙ running_more binary64 (row_term k row v w col) j zero⁺))
      (le_refl k)

  pub row_all : {j : ℕ} {d l : List Float} → j ≡ k → Filled 0 (row_sum k row v w j) k d l → Filled 0 (row_sum k row v w k) k d l
  row_all e r = filled_same (row_sum k row v w k) r (λ col b. ap (λ (n : ℕ). row_sum k row v w n col) e)

-- the next column's product
pub product_next : (at : ℕ) (y v sums : List Float) (col : ℕ) {l : List Float} → Filled 0 (added_product at y v sums) col sums l
    → get_or l col nan ⊕ get_or v (at + col) nan ⊗ get_or y col nan ≡ added_product at y v sums col
unfolding added_product
product_next at y v sums col r = ap (λ (z : Float). z ⊕ get_or v (at + col) nan ⊗ get_or y col nan) (filled_after col nan r (omega arith))

module _ (k at : ℕ) (v w : List Float) where
  pub rows_none : {l : List Float} → Filled 0 zero_at k l l → Filled 0 (rows_sum k at v w 0) k l l
  unfolding rows_sum of_bits
  rows_none r = filled_same (rows_sum k at v w 0) r (λ col h. running_none binary64 _ zero⁺)

  pub rows_more : (i row : ℕ) {y₀ y d l l' : List Float} → row ≡ i * k → k ≤ length y₀ → k ≤ length d → Filled 0 (row_sum k (at + row) v w k) k y₀ y
      → Filled 0 (rows_sum k at v w i) k d l → Filled 0 (added_product row y v l) k l l' → Filled 0 (rows_sum k at v w (i + 1)) k d l'
  unfolding rows_sum rows_term added_product
  rows_more i row {y₀} {y} {d} {l} e hy hd sums old new =
      filled_again old
      (filled_same (rows_sum k at v w (i + 1)) new
      (λ col b.
      let a = filled_in {j = col} nan old b (sym (zero-add col)) (omega arith) in
      let p = ap (λ (n : ℕ). get_or v (n + col) nan) e in
      let q = filled_in {j = col} nan sums b (sym (zero-add col)) (omega arith) ∙ ap (λ (n : ℕ). row_sum k (at + n) v w k col) e in
      ap₂ (λ (y z : Float). y ⊕ z) a (ap₂ (λ (y z : Float). y ⊗ z) p q) ∙ running_more binary64 (rows_term k at v w col) i zero⁺))
      (le_refl k)

  -- all rows: the quotients
  pub rows_all : {n : ℕ} {d l : List Float} → n ≡ k → Filled 0 (rows_sum k at v w n) k d l → Filled 0 (rayleigh k (plain k (drop at w)) (plain k v)) k d l
  unfolding rows_sum rows_term row_sum row_term rayleigh outer_term inner_term cell
  rows_all {n} z r =
      let D = plain k (drop at w) in
      let u = plain k v in
      filled_same (rayleigh k D u) r
      (λ col b.
      ap (λ (i : ℕ). rows_sum k at v w i col) z
      ∙ running_same binary64 (rows_term k at v w col) (outer_term k D u col) k zero⁺
      (λ i hi.
      ap₂ (λ (y z : Float). y ⊗ z) (sym (cell-plain k v i col hi b))
      (running_same binary64 (row_term k (at + i * k) v w col) (inner_term k D u i col) k zero⁺
      (λ j hj.
      let e : at + (i * k + j) ≡ at + i * k + j = omega arith in
      ap₂ (λ (y z : Float). y ⊗ z) (ap (λ (n : ℕ). get_or w n nan) (sym e) ∙ sym (get_or-drop at w (i * k + j) nan) ∙ sym (cell-plain k (drop at w) i j hi hj))
      (sym (cell-plain k v j col hj b))))))
