-- What stands in the working list while the orders of a cap are worked out, a fact for each part. Assumes nothing.
use Rattle.std.specs.Prelude.{◌≡◌, refl, List, ◌++◌, ℕ, ◌+◌, ◌-◌, ◌*◌, ◌≤◌, ◌<◌, length, get_or, take, drop, Float}
use Rattle.std.proofs.Common.{sym, ap, subst, ◌∙◌, append-nil, ⊎_elim, eq-or-lt_of_le, arith, length-drop, length-append, drop_of_length-le, ext_get_or, get_or-drop, get_or-take, get_or-append-add, length-take-le, take_all}
use Rattle.std.proofs.Math.ListN.{get_or-append}
use Rattle.std.specs.Float.{nan}
use Rattle.storage.specs.Elements.{from}
use Rattle.storage.specs.Fill.{fill}
use Rattle.storage.specs.Filled.{Filled, filled, filled_in, filled_before, filled_after}
use Rattle.storage.specs.Tabulate.{tabulate}
use Rattle.storage.specs.Rectangle.{by_rows}
use Rattle.storage.specs.Triangle.{table_size, along}
use Rattle.recursion.specs.Recursion.{a_cell, b_cell}
use Rattle.recursion.specs.Tables.{with_tables}
use Rattle.matrix.specs.Matrix.{cell-within}
use Rattle.matrix.specs.Layout.{Kept, filled_tabulate}
use Rattle.caps.specs.Caps.{degrees}
use Rattle.caps.specs.Columns.{TablesIn}
use Rattle.polar_cap.specs.PolarCap.{told_of, coefficient, concentration_in, vectors_size, cap_work, cap_orders, cap_concentrations, cap_vectors}
use Rattle.cap_functions.specs.CapPlaces.{functions_before, numbers_before, concentrations_at, vectors_at, before, Order, Divided}

-- l is d but for the indices lo .. hi - 1
pub record Apart (lo hi : ℕ) (d l : List Float) : Type 0 where
  pub below : (i : ℕ) → i < lo → get_or l i nan ≡ get_or d i nan
  pub above : (i : ℕ) → hi ≤ i → get_or l i nan ≡ get_or d i nan
  pub long : length l ≡ length d

pub apart_filled : {at k : ℕ} {F : ℕ → Float} {d l : List Float} → Filled at F k d l → Apart at (at + k) d l
apart_filled r = record { below = λ i h. filled_before i nan r h; above = λ i h. filled_after i nan r h; long = r.long }

pub apart_then : {lo hi : ℕ} {lo' hi' : ℕ} {d l l' : List Float} (a b : ℕ) → Apart lo hi d l → Apart lo' hi' l l' → a ≤ lo → a ≤ lo' → hi ≤ b → hi' ≤ b → Apart a b d l'
apart_then a b r s h h' g g' = record {
  below = λ i x. s.below i (omega arith) ∙ r.below i (omega arith);
  above = λ i x. s.above i (omega arith) ∙ r.above i (omega arith);
  long = s.long ∙ r.long;
}

-- so what stands behind is kept
pub apart_kept : {lo hi : ℕ} {d l : List Float} (n : ℕ) → Apart lo hi d l → hi ≤ n → Kept n d l
apart_kept {lo} {hi} {d} {l} n r h = record {
  behind =
      ext_get_or nan (drop n l) (drop n d) (length-drop n l ∙ ap (λ (x : ℕ). x - n) r.long ∙ sym (length-drop n d))
      (λ i b. get_or-drop n l i nan ∙ r.above (n + i) (omega arith) ∙ sym (get_or-drop n d i nan));
  long = r.long;
}

kept_at : {m : ℕ} {d l : List Float} → Kept m d l → (i : ℕ) → m ≤ i → get_or l i nan ≡ get_or d i nan
kept_at {m} {d} {l} r i h =
    let e : m + (i - m) ≡ i = omega arith in
    ap (λ (x : ℕ). get_or l x nan) (sym e)
    ∙ sym (get_or-drop m l (i - m) nan)
    ∙ ap (λ (x : List Float). get_or x (i - m) nan) r.behind
    ∙ get_or-drop m d (i - m) nan
    ∙ ap (λ (x : ℕ). get_or d x nan) e

-- the list from index s on, lent, and kept but for its first m numbers
pub apart_part : {m : ℕ} {y : List Float} (s n : ℕ) (w : List Float) → Kept m (take n (drop s w)) y → s ≤ length w → n ≡ length w - s
    → Apart s (s + m) w (take s w ++ (y ++ drop n (drop s w)))
apart_part {m} {y} s n w r h e =
    let size = length-drop s w in
    let whole = take_all n (drop s w) (omega arith) in
    let none = drop_of_length-le (drop s w) {i = n} (omega arith) in
    let front = length-take-le s w h in
    let same : take s w ++ (y ++ drop n (drop s w)) ≡ take s w ++ y =
    ap (λ (x : List Float). take s w ++ (y ++ x)) none ∙ ap (λ (x : List Float). take s w ++ x) (append-nil y) in
    let kept : Kept m (drop s w) y = subst (λ (x : List Float). Kept m x y) whole r in
    let long = kept.long in
    let joined = length-append (take s w) y in
    subst (Apart s (s + m) w) (sym same)
    (record {
      below = λ i b. get_or-append (take s w) y nan i (omega arith) ∙ get_or-take s w i nan b;
      above = λ i b.
          let at : length (take s w) + (i - s) ≡ i = omega arith in
          let back : s + (i - s) ≡ i = omega arith in
          ap (λ (x : ℕ). get_or (take s w ++ y) x nan) (sym at)
          ∙ get_or-append-add (take s w) y (i - s) nan
          ∙ kept_at kept (i - s) (omega arith)
          ∙ get_or-drop s w (i - s) nan
          ∙ ap (λ (x : ℕ). get_or w x nan) back;
      long = omega arith;
    })

-- ---- what the orders below m have left in the working list
module _ (L : ℕ) (x₀ : Float) (weights lats : List Float) where
  pub record Stored (total m : ℕ) (w : List Float) : Type 0 where
    pub tables : TablesIn L total w
    pub concentrations : (j col : ℕ) → j < m → col < degrees L j
        → get_or w (concentrations_at L + (functions_before L j + col)) nan ≡ concentration_in L x₀ weights lats j col
    pub vectors : (j col i : ℕ) → j < m → col < degrees L j → i < degrees L j
        → get_or w (vectors_at L + (numbers_before L j + (col * degrees L j + i))) nan ≡ coefficient L x₀ (j, col) i

  pub stored_none : {total : ℕ} {w : List Float} → TablesIn L total w → Stored total 0 w
  stored_none t = record { tables = t; concentrations = λ j col h g. absurd (omega arith); vectors = λ j col i h g b. absurd (omega arith) }

  tables_apart : {total lo hi : ℕ} {w w' : List Float} → TablesIn L total w → Apart lo hi w w' → total + total ≤ lo → TablesIn L total w'
  tables_apart {total} t r h = record {
    size = t.size;
    of_a = λ i b. r.below i (omega arith) ∙ t.of_a i b;
    of_b = λ i b. r.below (total + i) (omega arith) ∙ t.of_b i b;
  }

  -- the matrix of an order is made between the tables and what is stored
  pub stored_apart : {total m lo hi : ℕ} {w w' : List Float} → Stored total m w → Apart lo hi w w' → total + total ≤ lo → hi ≤ concentrations_at L → Divided L
      → Stored total m w'
  stored_apart s r h g d = record {
    tables = tables_apart s.tables r h;
    concentrations = λ j col b c. r.above (concentrations_at L + (functions_before L j + col)) (omega arith) ∙ s.concentrations j col b c;
    vectors = λ j col i b c e.
        r.above (vectors_at L + (numbers_before L j + (col * degrees L j + i))) (omega arith) ∙ s.vectors j col i b c e;
  }

  -- the concentrations and the vectors of order m stored behind those before it
  module _ {total m f v k : ℕ} {F G : ℕ → Float} {w w₁ w₂ : List Float} (s : Stored total m w) (r : Filled f F k w w₁) (t : Filled v G (k * k) w₁ w₂)
      (d : Divided L) (o : Order L m) (hk : k ≡ degrees L m) (hf : f ≡ concentrations_at L + functions_before L m)
      (hv : v ≡ vectors_at L + numbers_before L m) (room : cap_work L ≤ length w)
      (hc : (col : ℕ) → col < k → F col ≡ concentration_in L x₀ weights lats m col)
      (hg : (col i : ℕ) → col < k → i < k → G (col * k + i) ≡ coefficient L x₀ (m, col) i) where
    front : (i : ℕ) → i < f → get_or w₂ i nan ≡ get_or w i nan
    front i h = filled_before i nan t (omega arith) ∙ filled_before i nan r h

    between : (i : ℕ) → f + k ≤ i → i < v → get_or w₂ i nan ≡ get_or w i nan
    between i h g = filled_before i nan t g ∙ filled_after i nan r h

    new_concentration : (col : ℕ) → col < degrees L m → get_or w₂ (concentrations_at L + (functions_before L m + col)) nan ≡ concentration_in L x₀ weights lats m col
    new_concentration col h =
        filled_before (concentrations_at L + (functions_before L m + col)) nan t (omega arith)
        ∙ filled_in {j = col} nan r (omega arith) (omega arith) (omega arith)
        ∙ hc col (omega arith)

    new_number : (col i : ℕ) → col < degrees L m → i < degrees L m
        → get_or w₂ (vectors_at L + (numbers_before L m + (col * degrees L m + i))) nan ≡ coefficient L x₀ (m, col) i
    new_number col i h g =
        let same = ap (λ (x : ℕ). col * x) hk in
        let inside = cell-within k col i (omega arith) (omega arith) in
        let cells = ap (λ (x : ℕ). x * x) hk in
        let long = r.long in
        filled_in {j = col * k + i} nan t inside (omega arith) (omega arith) ∙ hg col i (omega arith) (omega arith)

    pub stored_more : Stored total (m + 1) w₂
    stored_more = record {
      tables = record {
        size = s.tables.size;
        of_a = λ i b. front i (omega (arith, s.tables.size)) ∙ s.tables.of_a i b;
        of_b = λ i b. front (total + i) (omega (arith, s.tables.size)) ∙ s.tables.of_b i b;
      };
      concentrations = λ j col h g.
          ⊎_elim
          (λ e. subst (λ (x : ℕ). col < degrees L x → get_or w₂ (concentrations_at L + (functions_before L x + col)) nan ≡ concentration_in L x₀ weights lats x col)
          (sym e) (new_concentration col) g)
          (λ l.
          let b = before L j m l in
          front (concentrations_at L + (functions_before L j + col)) (omega (arith, b.functions)) ∙ s.concentrations j col l g)
          (eq-or-lt_of_le {n = j} {m = m} (omega arith));
      vectors = λ j col i h g c.
          ⊎_elim
          (λ e.
          subst
          (λ (x : ℕ). col < degrees L x → i < degrees L x
          → get_or w₂ (vectors_at L + (numbers_before L x + (col * degrees L x + i))) nan ≡ coefficient L x₀ (x, col) i)
          (sym e) (new_number col i) g c)
          (λ l.
          let b = before L j m l in
          let u = cell-within (degrees L j) col i g c in
          between (vectors_at L + (numbers_before L j + (col * degrees L j + i))) (omega arith) (omega (arith, b.numbers)) ∙ s.vectors j col i l g c)
          (eq-or-lt_of_le {n = j} {m = m} (omega arith));
    }

-- ---- the whole call
-- the tables of the recursion, as they stand at the front of a working list
pub tables_in : (L total : ℕ) (w : List Float) {w' : List Float} → total ≡ table_size L → w' ≡ with_tables L w → cap_work L ≤ length w → Divided L
    → TablesIn L total w' × Kept (cap_work L) w w'
unfolding with_tables
tables_in L total w {w'} e t h d =
    let T = table_size L in
    let w₁ = fill 0 (along a_cell) T w in
    let one = filled 0 (along a_cell) T w refl in
    let two = filled T (along b_cell) T w₁ t in
    let long = one.long in (
      record {
        size = e;
        of_a = λ i b. filled_before i nan two (omega arith) ∙ filled_in {j = i} nan one (omega arith) (omega arith) (omega arith);
        of_b = λ i b. filled_in {j = i} nan two (omega arith) (omega arith) (omega arith);
      },
      apart_kept (cap_work L) (apart_then 0 (T + T) (apart_filled one) (apart_filled two) (omega arith) (omega arith) (omega arith) (omega arith)) (omega arith),
    )

-- an output that was kept behind its first n numbers, and then filled there
pub kept_filled : {F : ℕ → Float} {n : ℕ} {d l l' : List Float} → Kept n d l → Filled 0 F n l l' → n ≤ length d → Filled 0 F n d l'
kept_filled {F} {n} {d} {l} {l'} k r h =
    let long = k.long in
    filled 0 F n d
    (filled_tabulate r (omega arith)
    ∙ ap (λ (t : List Float). tabulate F 0 n ++ t) k.behind
    ∙ sym (filled_tabulate (filled 0 F n d refl) h))

-- what an accepted call makes of its lists
pub record CapMade (L : ℕ) (x₀ : Float) (weights lats w w' o o' c c' v v' s s' : List Float) : Type 0 where
  pub orders : Filled 0 (from 0 (cap_orders L x₀ weights lats) nan) (table_size L) o o'
  pub concentrations : Filled 0 (from 0 (cap_concentrations L x₀ weights lats) nan) (table_size L) c c'
  pub vectors : Filled 0 (from 0 (cap_vectors L x₀ weights lats) nan) (vectors_size L) v v'
  pub settled : Filled 0 (by_rows (told_of L x₀) 2) ((L + 1) * 2) s s'
  pub kept : Kept (cap_work L) w w'
