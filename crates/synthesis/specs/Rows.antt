-- The rows of a grid: a row's values from the sums of its orders, and from its own pair alone. Assumes nothing.
use Rattle.std.specs.Prelude.{◌≡◌, refl, ℕ, suc, ◌+◌, ◌≤◌, ◌<◌, length, get_or, set, Float}
use Rattle.std.proofs.Common.{sym, ◌∙◌, not-suc-le-zero, zero-add, arith, get_or-set_other}
use Rattle.std.proofs.Math.Path.{ap₂}
use mathlib.Core.List.{List}
use Rattle.std.proofs.Math.Numerals.{add-one}
use Rattle.std.specs.Float.Ieee.{nan, binary64}
use Rattle.number.specs.Float64.{◌⊕◌, ◌⊗◌}
use Rattle.storage.specs.Filled.{Filled, filled_in, filled_same}
use Rattle.storage.specs.Triangle.{idx, table_size, cells, along, idx-within}
use Rattle.recursion.specs.Recursion.{a_cell, b_cell, p_cell, p_same}
use Rattle.rounding.specs.Sums.{zero⁺, column_sum}
use Rattle.rounding.specs.SumSteps.{running_same, column_same}
use Rattle.rounding.specs.Margins.{grid_summand, grid_order, grid_value}
use Rattle.legendre.specs.Directions.{row_sine, row_cosine, cosines, sines, legendre_row}
use Rattle.synthesis.specs.Grid.{grid_cell}
use Rattle.fourier_synthesis.specs.Longitudes.{order_term, point_at}

-- ---- the values of a row
-- the lists that a row is worked out in, by their lengths, have room for the degrees and orders up to nmax
pub record RowRoom (nmax a b c s factors sectorals r even odd p x y : ℕ) : Type 0 where
  pub top : nmax ≤ 2700
  pub of_a : table_size nmax ≤ a
  pub of_b : table_size nmax ≤ b
  pub of_c : table_size nmax ≤ c
  pub of_s : table_size nmax ≤ s
  pub of_factors : nmax < factors
  pub of_sectorals : nmax < sectorals
  pub of_r : nmax < r
  pub of_even : nmax < even
  pub of_odd : nmax < odd
  pub of_p : nmax < p
  pub of_x : nmax < x
  pub of_y : nmax < y

-- lists that are written keep it, as they keep their lengths
pub room_kept : {nmax a b c s f d r even odd p x y r' even' odd' p' x' y' : ℕ} → RowRoom nmax a b c s f d r even odd p x y
    → r' ≡ r → even' ≡ even → odd' ≡ odd → p' ≡ p → x' ≡ x → y' ≡ y → RowRoom nmax a b c s f d r' even' odd' p' x' y'
room_kept k er ee eo ep ex ey = record {
  top = k.top;
  of_a = k.of_a;
  of_b = k.of_b;
  of_c = k.of_c;
  of_s = k.of_s;
  of_factors = k.of_factors;
  of_sectorals = k.of_sectorals;
  of_r = omega (arith, k.of_r);
  of_even = omega (arith, k.of_even);
  of_odd = omega (arith, k.of_odd);
  of_p = omega (arith, k.of_p);
  of_x = omega (arith, k.of_x);
  of_y = omega (arith, k.of_y);
}

-- at longitude j of a row with the sine t and the cosine u of its latitude, by coefficients a and b of the recursion and a table of factors
unfoldable pub row_value : (a b factor : ℕ → Float) (t u : Float) (c s trig : List Float) (N j : ℕ) → Float
row_value a b factor t u c s trig N j = grid_value (p_cell a b t u) factor (cells c nan) (cells s nan) (cosines trig N j) (sines trig N j) N

-- at row i
unfoldable pub rows_value : (a b factor : ℕ → Float) (lats c s trig : List Float) (N i j : ℕ) → Float
rows_value a b factor lats c s trig N i = row_value a b factor (row_sine lats i) (row_cosine lats i) c s trig N

pub row_at : (a b factor : ℕ → Float) {t u : Float} (lats c s trig : List Float) (N i : ℕ) {at L : ℕ} {o o' : List Float}
    → t ≡ row_sine lats i → u ≡ row_cosine lats i → Filled at (row_value a b factor t u c s trig N) L o o'
    → Filled at (rows_value a b factor lats c s trig N i) L o o'
unfolding rows_value
row_at a b factor lats c s trig N i et eu r =
    filled_same (rows_value a b factor lats c s trig N i) r (λ j h. ap₂ (λ (x y : Float). row_value a b factor x y c s trig N j) et eu)

-- by the recursion coefficients of `Legendre::new` they are the grid's
pub rows_are : (factor : ℕ → Float) (lats c s trig : List Float) (N i j : ℕ)
    → rows_value (along a_cell) (along b_cell) factor lats c s trig N i j ≡ grid_cell factor lats c s trig N i j
unfolding rows_value row_value grid_cell legendre_row
rows_are factor lats c s trig N i j = refl

-- the sums of the orders over the degrees, in the lists x and y, make the row's values
module _ (a b factor : ℕ → Float) (t u : Float) (c s trig : List Float) (N : ℕ) {x x' y y' : List Float} where
  pub row_values : {at L : ℕ} {o o' : List Float}
      → Filled 0 (column_sum binary64 (grid_summand (p_cell a b t u) factor (cells c nan)) (N + 1)) (N + 1) x x'
      → Filled 0 (column_sum binary64 (grid_summand (p_cell a b t u) factor (cells s nan)) (N + 1)) (N + 1) y y'
      → N < length x → N < length y → Filled at (point_at N x' y' trig) L o o' → Filled at (row_value a b factor t u c s trig N) L o o'
  unfolding row_value point_at order_term
  row_values fx fy hx hy out =
      filled_same (row_value a b factor t u c s trig N) out
      (λ j h.
      rw add-one
      (running_same binary64 (order_term N x' y' trig j)
      (grid_order (p_cell a b t u) factor (cells c nan) (cells s nan) (cosines trig N j) (sines trig N j) N) (suc N) zero⁺
      (λ m g.
      ap₂ (λ (v w : Float). v ⊗ cosines trig N j m ⊕ w ⊗ sines trig N j m)
      (rw add-one at (filled_in {j = m} nan fx (omega arith) (sym (zero-add m)) (omega arith)))
      (rw add-one at (filled_in {j = m} nan fy (omega arith) (sym (zero-add m)) (omega arith))))))

-- tables that agree where they are read give the same values
module _ (a b factor a' b' factor' : ℕ → Float) (c s trig : List Float) (N : ℕ) (ea : (k : ℕ) → k < table_size N → a k ≡ a' k)
    (eb : (k : ℕ) → k < table_size N → b k ≡ b' k) (ef : (n : ℕ) → n ≤ N → factor n ≡ factor' n) where
  row_same : (t u : Float) (j : ℕ) → row_value a b factor t u c s trig N j ≡ row_value a' b' factor' t u c s trig N j
  unfolding row_value
  row_same t u j =
      running_same binary64 (grid_order (p_cell a b t u) factor (cells c nan) (cells s nan) (cosines trig N j) (sines trig N j) N)
      (grid_order (p_cell a' b' t u) factor' (cells c nan) (cells s nan) (cosines trig N j) (sines trig N j) N) (suc N) zero⁺
      (λ m h. ap₂ (λ (v w : Float). v ⊗ cosines trig N j m ⊕ w ⊗ sines trig N j m) (order c m) (order s m))
    where
      order : (l : List Float) (m : ℕ) → column_sum binary64 (grid_summand (p_cell a b t u) factor (cells l nan)) (suc N) m
          ≡ column_sum binary64 (grid_summand (p_cell a' b' t u) factor' (cells l nan)) (suc N) m
      order l m =
          column_same binary64 (grid_summand (p_cell a b t u) factor (cells l nan)) (grid_summand (p_cell a' b' t u) factor' (cells l nan)) (suc N) m
          (λ n k h.
          ap₂ (λ (v w : Float). v ⊗ w ⊗ cells l nan n m) (ef n (omega arith))
          (p_same a b a' b' t u n m h
          (λ i g q. (ea (idx i m) (idx-within i m N (omega arith) (omega arith)), eb (idx i m) (idx-within i m N (omega arith) (omega arith))))))

  pub rows_same : (lats : List Float) (i j : ℕ) → rows_value a b factor lats c s trig N i j ≡ rows_value a' b' factor' lats c s trig N i j
  unfolding rows_value
  rows_same lats i j = row_same (row_sine lats i) (row_cosine lats i) j

-- ---- a row depends on its own pair alone
pub row_alone : (factor : ℕ → Float) (lats lats' c s trig : List Float) (N i j : ℕ) → row_sine lats i ≡ row_sine lats' i → row_cosine lats i ≡ row_cosine lats' i
    → grid_cell factor lats c s trig N i j ≡ grid_cell factor lats' c s trig N i j
unfolding grid_cell legendre_row
row_alone factor lats lats' c s trig N i j et eu = cc

-- another row's pair changed leaves its values
pub other_pair : (factor : ℕ → Float) (lats c s trig : List Float) (N i k j : ℕ) (t u : Float) → (i ≡ k → ⊥)
    → grid_cell factor (set (set lats (k + k) t) (k + k + 1) u) c s trig N i j ≡ grid_cell factor lats c s trig N i j
unfolding row_sine row_cosine
other_pair factor lats c s trig N i k j t u h =
    row_alone factor (set (set lats (k + k) t) (k + k + 1) u) lats c s trig N i j
    (still (i + i) (λ e. h (omega (arith, e))) (λ e. absurd (odd i k e))) (still (i + i + 1) (λ e. absurd (odd k i (sym e))) (λ e. h (omega (arith, e))))
  where
    -- no even index is an odd one
    odd : (x y : ℕ) → x + x ≡ y + y + 1 → ⊥
    odd x y e = let z : ◌≡◌ {A = ℕ} 0 1 = omega (arith, e) in let w : 1 ≤ 0 = omega (arith, z) in not-suc-le-zero w

    still : (n : ℕ) → (n ≡ k + k → ⊥) → (n ≡ k + k + 1 → ⊥) → get_or (set (set lats (k + k) t) (k + k + 1) u) n nan ≡ get_or lats n nan
    still n p q = get_or-set_other (set lats (k + k) t) (k + k + 1) n u nan q ∙ get_or-set_other lats (k + k) n t nan p
