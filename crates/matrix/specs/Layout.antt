-- How the code holds a matrix: in the first n * n numbers of a list, row by row or column by column, while the rest of the list is kept.
-- Assumes nothing.
use Rattle.std.specs.Prelude.{◌≡◌, Bool, ltb, eqb, length, drop}
use Rattle.std.proofs.Math.Path.{refl, sym, ap}
use Rattle.std.proofs.Common.{subst₂, ◌∙◌, zero-add, drop-drop, ext_get_or, get_or-set_same, get_or-set_other}
use Rattle.std.proofs.Math.Bool.{true, false}
use mathlib.Core.List.{List, ◌++◌}
use Prim.Native.Nat.{ℕ, ◌+◌, ◌-◌, ◌*◌, ◌≤◌, ◌<◌}
use Rattle.std.proofs.Math.Nat.{mul-le-mul_right}
use native.Mathlib.Omega.{arith}
use Rattle.std.proofs.Math.ListN.{get_or, set, length-set}
use Rattle.std.specs.Float.Ieee.{Float, nan}
use borrow.Author.Tests.{ltb-true, ltb-false, eqb-true, eqb-false, eq-eqb, ne_eqb}
use Rattle.number.specs.Float64.{◌⊕◌, ◌⊖◌, ◌⊗◌}
use Rattle.storage.specs.Elements.{from}
use Rattle.storage.specs.Fill.{fill, length-fill, fill_none, fill_more, fill_in, fill_before, fill_after, fill_swap, fill_same, drop-fill}
use Rattle.storage.specs.Filled.{Filled, filled_none, filled_to, filled_in, filled_after, filled_same}
use Rattle.storage.specs.Store.{fill_front}
use Rattle.storage.specs.Tabulate.{tabulate, length-tabulate, get_d_tabulate}
use Rattle.storage.specs.Rectangle.{by_rows, by_rows_more, by_rows_at}
use Rattle.matrix.specs.Matrix.{cell, matrix_of, kronecker, identity, diagonal_cell, diagonal, columns_rotated, rows_rotated, rotate_columns, rotate_rows}
use Rattle.matrix.specs.Matrix.{row_within, cell-within, cell_matrix, matrix_same, matrix_self}

-- rows and columns exchanged
unfoldable pub flipped : (ℕ → ℕ → Float) → ℕ → ℕ → Float
flipped f i j = f j i

-- the matrix that stands in the first n * n numbers of w row by row, and the one that stands there column by column, so that a column is a run
unfoldable pub plain : ℕ → List Float → List Float
plain n w = matrix_of n (cell n w)

unfoldable pub transposed : ℕ → List Float → List Float
transposed n w = matrix_of n (flipped (cell n w))

-- their cells
pub cell-plain : (n : ℕ) (w : List Float) (i j : ℕ) → i < n → j < n → cell n (plain n w) i j ≡ cell n w i j
unfolding plain
cell-plain n w i j h g = cell_matrix n (cell n w) i j h g

pub cell-transposed : (n : ℕ) (w : List Float) (i j : ℕ) → i < n → j < n → cell n (transposed n w) i j ≡ cell n w j i
unfolding transposed flipped
cell-transposed n w i j h g = cell_matrix n (flipped (cell n w)) i j h g

-- a read of the list is a read of its matrix
pub read_plain : (n : ℕ) (w : List Float) (i j : ℕ) {r : ℕ} → r ≡ i * n + j → i < n → j < n → get_or w r nan ≡ cell n (plain n w) i j
unfolding cell
read_plain n w i j e h g = ap (λ (x : ℕ). get_or w x nan) e ∙ sym (cell-plain n w i j h g)

-- w has room for an n by n matrix, and n is no larger than the calls allow
pub record Room (n : ℕ) (w : List Float) : Type 0 where
  pub small : n ≤ 512
  pub long : n * n ≤ length w

-- where row i begins, and where its number of column j stands
pub record RowAt (n i r : ℕ) : Type 0 where
  pub is : r ≡ i * n
  pub inside : r + n ≤ n * n

pub record CellAt (n i j r : ℕ) : Type 0 where
  pub is : r ≡ i * n + j
  pub inside : r < n * n

-- l is d from index m on, and as long
pub record Kept (m : ℕ) (d l : List Float) : Type 0 where
  pub behind : drop m l ≡ drop m d
  pub long : length l ≡ length d

pub kept_none : {m : ℕ} {d : List Float} → Kept m d d
kept_none = record { behind = refl; long = refl }

pub kept_then : {m : ℕ} {d l l' : List Float} → Kept m d l → Kept m l l' → Kept m d l'
kept_then k h = record { behind = h.behind ∙ k.behind; long = h.long ∙ k.long }

pub kept_from : {m : ℕ} {d l : List Float} (k : ℕ) → m ≤ k → Kept m d l → Kept k d l
kept_from {m} {d} {l} k h r =
    let e : m + (k - m) ≡ k = omega arith in
    let at : (x : List Float) → drop k x ≡ drop (k - m) (drop m x) = λ x. ap (λ (i : ℕ). drop i x) (sym e) ∙ sym (drop-drop (k - m) m x) in
    record { behind = at l ∙ ap (drop (k - m)) r.behind ∙ sym (at d); long = r.long }

pub filled_kept : {f : ℕ → Float} {m : ℕ} {d l : List Float} → Filled 0 f m d l → Kept m d l
filled_kept {f} {m} {d} {l} r = record { behind = ap (drop m) r.is ∙ drop-fill 0 f m m d (omega arith); long = r.long }

-- a list filled at its front is the values, and what was behind them
pub filled_tabulate : {f : ℕ → Float} {m : ℕ} {d l : List Float} → Filled 0 f m d l → m ≤ length d → l ≡ tabulate f 0 m ++ drop m d
unfolding from
filled_tabulate {f} {m} {d} r h =
    let vs : List Float = tabulate f 0 m in
    let n : length vs ≡ m = let e : m - 0 ≡ m = omega arith in length-tabulate f 0 m ∙ e in
    let same : (i : ℕ) → i < m → f i ≡ from 0 vs nan i =
    λ i b. ap f (sym (zero-add i)) ∙ sym (get_d_tabulate f 0 m i nan (omega arith)) ∙ ap (λ (k : ℕ). get_or vs k nan) (sym (zero-add i)) in
    r.is
    ∙ fill_same 0 f (from 0 vs nan) m d same
    ∙ ap (λ (k : ℕ). fill 0 (from 0 vs nan) k d) (sym n)
    ∙ fill_front vs d nan (omega arith)
    ∙ ap (λ (k : ℕ). vs ++ drop k d) n

-- a diagonal, and a matrix with rows and columns exchanged, written at the front of a list
pub filled_diagonal : (n : ℕ) (w : List Float) {d l : List Float} → Filled 0 (diagonal_cell n w) n d l → n ≤ length d → l ≡ diagonal n (plain n w) ++ drop n d
unfolding diagonal diagonal_cell
filled_diagonal n w r h = filled_tabulate (filled_same (diagonal_cell n (plain n w)) r (λ i b. sym (cell-plain n w i i b b))) h

pub filled_exchanged : (n : ℕ) (w : List Float) {d l : List Float} → Filled 0 (by_rows (flipped (cell n w)) n) (n * n) d l → n * n ≤ length d
    → l ≡ transposed n w ++ drop (n * n) d
unfolding transposed matrix_of
filled_exchanged n w r h = filled_tabulate r h

-- ---- what a matrix that was written is, by rows and by columns
module _ (n : ℕ) (F : ℕ → ℕ → Float) {d l : List Float} (r : Filled 0 (by_rows F n) (n * n) d l) (h : n * n ≤ length d) where
  filled_cell : (i j : ℕ) → i < n → j < n → cell n l i j ≡ F i j
  unfolding cell
  filled_cell i j b g = by_rows_at F n i j nan r g (cell-within n i j b g) h

  pub filled_plain : plain n l ≡ matrix_of n F
  unfolding plain
  filled_plain = matrix_same n (cell n l) F filled_cell

  pub filled_transposed : transposed n l ≡ matrix_of n (flipped F)
  unfolding transposed flipped
  filled_transposed = matrix_same n (flipped (cell n l)) (flipped F) (λ i j b g. filled_cell j i g b)

-- the identity is its own transposed
kronecker-flipped : (i j : ℕ) (b : Bool) → eqb i j ≡ b → flipped kronecker i j ≡ kronecker i j
unfolding flipped kronecker
kronecker-flipped i j true e = simp (e, eq-eqb j i (sym (eqb-true i j e)))
kronecker-flipped i j false e = simp (e, ne_eqb j i (λ g. eqb-false i j e (sym g)))

pub identity-transposed : (n : ℕ) {d l : List Float} → Filled 0 (by_rows kronecker n) (n * n) d l → n * n ≤ length d → transposed n l ≡ identity n
unfolding identity
identity-transposed n r h = filled_transposed n kronecker r h ∙ matrix_same n (flipped kronecker) kronecker (λ i j b g. kronecker-flipped i j (eqb i j) refl)

-- a copy of a matrix
pub copied_plain : (n : ℕ) (a : List Float) {d l : List Float} → Filled 0 (from 0 a nan) (n * n) d l → length a ≡ n * n → n * n ≤ length d → plain n l ≡ a
unfolding plain cell from
copied_plain n a {d} {l} r e h =
    matrix_same n (cell n l) (cell n a)
    (λ i j b g.
    let k = cell-within n i j b g in
    filled_in nan r k (sym (zero-add (i * n + j))) (omega arith) ∙ ap (λ (x : ℕ). get_or a x nan) (zero-add (i * n + j)))
    ∙ matrix_self n a e

-- ---- rotations
-- the numbers x at `at` + j and y at `to` + j of d become these
unfoldable pub rotated_first : Float → Float → ℕ → ℕ → List Float → ℕ → Float
rotated_first c s at to d j = c ⊗ get_or d (at + j) nan ⊖ s ⊗ get_or d (to + j) nan

unfoldable pub rotated_second : Float → Float → ℕ → ℕ → List Float → ℕ → Float
rotated_second c s at to d j = s ⊗ get_or d (at + j) nan ⊕ c ⊗ get_or d (to + j) nan

-- l is d with the k numbers from `at` on and the k numbers from `to` on rotated
pub record RunsRotated (c s : Float) (at to k : ℕ) (d l : List Float) : Type 0 where
  pub is : l ≡ fill to (rotated_second c s at to d) k (fill at (rotated_first c s at to d) k d)
  pub long : length l ≡ length d

module _ {c s : Float} {at to : ℕ} {d : List Float} where
  pub runs_none : RunsRotated c s at to 0 d d
  runs_none =
      let F = rotated_first c s at to d in
      record { is = sym (fill_none at F d) ∙ sym (fill_none to (rotated_second c s at to d) (fill at F 0 d)); long = refl }

  -- one more pair
  pub runs_more : {k : ℕ} {l : List Float} → RunsRotated c s at to k d l → at + (k + 1) ≤ to
      → RunsRotated c s at to (k + 1) d
      (set (set l (at + k) (c ⊗ get_or l (at + k) nan ⊖ s ⊗ get_or l (to + k) nan)) (to + k) (s ⊗ get_or l (at + k) nan ⊕ c ⊗ get_or l (to + k) nan))
  unfolding rotated_first rotated_second
  runs_more {k} {l} r h =
      let F : ℕ → Float = rotated_first c s at to d in
      let G : ℕ → Float = rotated_second c s at to d in
      let x : get_or l (at + k) nan ≡ get_or d (at + k) nan =
      ap (λ (y : List Float). get_or y (at + k) nan) r.is
      ∙ fill_before to G k (at + k) (fill at F k d) nan (omega arith)
      ∙ fill_after at F k (at + k) d nan (omega arith) in
      let y : get_or l (to + k) nan ≡ get_or d (to + k) nan =
      ap (λ (y : List Float). get_or y (to + k) nan) r.is
      ∙ fill_after to G k (to + k) (fill at F k d) nan (omega arith)
      ∙ fill_after at F k (to + k) d nan (omega arith) in
      let first : set l (at + k) (F k) ≡ fill to G k (fill at F (k + 1) d) =
      ap (λ (y : List Float). set y (at + k) (F k)) (r.is ∙ fill_swap at to F G k k d (omega arith))
      ∙ fill_more at F k (fill to G k d)
      ∙ sym (fill_swap at to F G (k + 1) k d h) in
      let both : set (set l (at + k) (F k)) (to + k) (G k) ≡ fill to G (k + 1) (fill at F (k + 1) d) =
      ap (λ (y : List Float). set y (to + k) (G k)) first ∙ fill_more to G k (fill at F (k + 1) d) in
      record {
        is = rw (x, y) both;
        long = length-set (set l (at + k) _) (to + k) _ ∙ length-set l (at + k) _ ∙ r.long;
      }

-- l is d with rows p and q of its matrix rotated: by columns, the columns p and q
pub record RowsRotated (c s : Float) (n p q : ℕ) (d l : List Float) : Type 0 where
  pub rows : plain n l ≡ rotate_rows c s n p q (plain n d)
  pub columns : transposed n l ≡ rotate_columns c s n p q (transposed n d)
  pub kept : Kept (n * n) d l

-- l is d with columns p and q of its matrix rotated
pub record ColumnsRotated (c s : Float) (n p q : ℕ) (d l : List Float) : Type 0 where
  pub columns : plain n l ≡ rotate_columns c s n p q (plain n d)
  pub kept : Kept (n * n) d l

-- the cells of a list with row p filled
module _ (n : ℕ) (F : ℕ → Float) (d : List Float) (p : ℕ) where
  row_filled : (j : ℕ) → j < n → p * n + n ≤ length d → cell n (fill (p * n) F n d) p j ≡ F j
  unfolding cell
  row_filled j g h = fill_in (p * n) F n j d nan g (omega arith)

  row_other : (i j : ℕ) → j < n → (i ≡ p → ⊥) → (b : Bool) → ltb i p ≡ b → cell n (fill (p * n) F n d) i j ≡ cell n d i j
  unfolding cell
  row_other i j g o true e = fill_before (p * n) F n (i * n + j) d nan (omega (arith, mul-le-mul_right n (ltb-true i p e)))
  row_other i j g o false e =
      let le = ltb-false i p e in
      let lt : p < i = omega arith in
      fill_after (p * n) F n (i * n + j) d nan (omega (arith, mul-le-mul_right n lt))

module _ (c s : Float) (n p q : ℕ) (f : ℕ → ℕ → Float) where
  rows_first : (j : ℕ) → rows_rotated c s p q f p j ≡ c ⊗ f p j ⊖ s ⊗ f q j
  unfolding rows_rotated
  rows_first j = simp (eq-eqb p p refl)

  rows_second : (j : ℕ) → p < q → rows_rotated c s p q f q j ≡ s ⊗ f p j ⊕ c ⊗ f q j
  unfolding rows_rotated
  rows_second j h = simp (ne_eqb q p (λ e. omega arith), eq-eqb q q refl)

  rows_other : (i j : ℕ) → eqb i p ≡ false → eqb i q ≡ false → rows_rotated c s p q f i j ≡ f i j
  unfolding rows_rotated
  rows_other i j e g = simp (e, g)

  columns_first : (i : ℕ) → columns_rotated c s p q f i p ≡ c ⊗ f i p ⊖ s ⊗ f i q
  unfolding columns_rotated
  columns_first i = simp (eq-eqb p p refl)

  columns_second : (i : ℕ) → p < q → columns_rotated c s p q f i q ≡ s ⊗ f i p ⊕ c ⊗ f i q
  unfolding columns_rotated
  columns_second i h = simp (ne_eqb q p (λ e. omega arith), eq-eqb q q refl)

  columns_other : (i j : ℕ) → (j ≡ p → ⊥) → (j ≡ q → ⊥) → columns_rotated c s p q f i j ≡ f i j
  unfolding columns_rotated
  columns_other i j e g = simp (ne_eqb j p e, ne_eqb j q g)

  -- by columns, rows are columns
  rows_flipped : (i j : ℕ) → flipped (rows_rotated c s p q f) i j ≡ columns_rotated c s p q (flipped f) i j
  unfolding flipped rows_rotated columns_rotated
  rows_flipped i j = refl

  -- cells that agree are rotated alike
  module _ (g : ℕ → ℕ → Float) (e : (i j : ℕ) → i < n → j < n → f i j ≡ g i j) (hp : p < n) (hq : q < n) where
    rows_same : (i j : ℕ) → i < n → j < n → rows_rotated c s p q f i j ≡ rows_rotated c s p q g i j
    unfolding rows_rotated
    rows_same i j h k = rw (e i j h k, e p j hp k, e q j hq k) refl

    columns_same : (i j : ℕ) → i < n → j < n → columns_rotated c s p q f i j ≡ columns_rotated c s p q g i j
    unfolding columns_rotated
    columns_same i j h k = rw (e i j h k, e i p h hp, e i q h hq) refl

-- two rows rotated as runs of the storage
module _ {c s : Float} (n p q : ℕ) {at to : ℕ} {d l : List Float} (runs : RunsRotated c s at to n d l) (first : at ≡ p * n) (second : to ≡ q * n) (h : p < q)
    (b : q < n) (m : n * n ≤ length d) where
  r : RunsRotated c s (p * n) (q * n) n d l
  r = subst₂ (λ (x y : ℕ). RunsRotated c s x y n d l) first second runs

  abbrev once : List Float
  once = fill (p * n) (rotated_first c s (p * n) (q * n) d) n d

  abbrev twice : List Float
  twice = fill (q * n) (rotated_second c s (p * n) (q * n) d) n once

  untouched_by_second : (i j : ℕ) → j < n → eqb i q ≡ false → cell n twice i j ≡ cell n once i j
  untouched_by_second i j hj e = row_other n (rotated_second c s (p * n) (q * n) d) once q i j hj (eqb-false i q e) (ltb i q) refl

  rows_by : (i j : ℕ) → i < n → j < n → (x : Bool) → eqb i p ≡ x → (y : Bool) → eqb i q ≡ y → cell n twice i j ≡ rows_rotated c s p q (cell n d) i j
  unfolding cell rotated_first rotated_second
  rows_by i j hi hj true e true g = absurd (let z = eqb-true i p e in let w = eqb-true i q g in omega arith)
  rows_by i j hi hj true e false g =
      untouched_by_second i j hj g
      ∙ ap (λ (k : ℕ). cell n once k j) (eqb-true i p e)
      ∙ row_filled n (rotated_first c s (p * n) (q * n) d) d p j hj (omega (arith, row_within n p (omega arith)))
      ∙ sym (rows_first c s n p q (cell n d) j)
      ∙ ap (λ (k : ℕ). rows_rotated c s p q (cell n d) k j) (sym (eqb-true i p e))
  rows_by i j hi hj false e true g =
      let long = length-fill (p * n) (rotated_first c s (p * n) (q * n) d) n d in
      ap (λ (k : ℕ). cell n twice k j) (eqb-true i q g)
      ∙ row_filled n (rotated_second c s (p * n) (q * n) d) once q j hj (omega (arith, row_within n q b))
      ∙ sym (rows_second c s n p q (cell n d) j h)
      ∙ ap (λ (k : ℕ). rows_rotated c s p q (cell n d) k j) (sym (eqb-true i q g))
  rows_by i j hi hj false e false g =
      untouched_by_second i j hj g
      ∙ row_other n (rotated_first c s (p * n) (q * n) d) d p i j hj (eqb-false i p e) (ltb i p) refl
      ∙ sym (rows_other c s n p q (cell n d) i j e g)

  rows_cell : (i j : ℕ) → i < n → j < n → cell n l i j ≡ rows_rotated c s p q (cell n d) i j
  rows_cell i j hi hj = ap (λ (x : List Float). cell n x i j) r.is ∙ rows_by i j hi hj (eqb i p) refl (eqb i q) refl

  pub rows_rotated_lem : RowsRotated c s n p q d l
  unfolding plain transposed rotate_rows rotate_columns flipped
  rows_rotated_lem =
      let f : ℕ → ℕ → Float = cell n d in
      let hp : p < n = omega arith in
      record {
        rows =
            matrix_same n (cell n l) (rows_rotated c s p q (cell n (plain n d)))
            (λ i j hi hj.
            rows_cell i j hi hj ∙ rows_same c s n p q f (cell n (plain n d)) (λ i j hi hj. sym (cell-plain n d i j hi hj)) hp b i j hi hj);
        columns =
            matrix_same n (flipped (cell n l)) (columns_rotated c s p q (cell n (transposed n d)))
            (λ i j hi hj.
            rows_cell j i hj hi
            ∙ rows_flipped c s n p q f i j
            ∙ columns_same c s n p q (flipped f) (cell n (transposed n d)) (λ i j hi hj. sym (cell-transposed n d i j hi hj)) hp b i j hi hj);
        kept = record {
          behind =
              ap (drop (n * n)) r.is
              ∙ drop-fill (q * n) (rotated_second c s (p * n) (q * n) d) n (n * n) once (row_within n q b)
              ∙ drop-fill (p * n) (rotated_first c s (p * n) (q * n) d) n (n * n) d (row_within n p hp);
          long = r.long;
        };
      }

-- two numbers stored among the n from `at` on
module _ (at p q n : ℕ) (F : ℕ → Float) (l : List Float) (h : p < q) (b : q < n) (m : at + n ≤ length l) where
  abbrev stored : List Float
  stored = set (set l (at + p) (F p)) (at + q) (F q)

  stored_other : (i : ℕ) → (i ≡ at + p → ⊥) → (i ≡ at + q → ⊥) → get_or stored i nan ≡ get_or l i nan
  stored_other i e g =
      get_or-set_other (set l (at + p) (F p)) (at + q) i (F q) nan g ∙ get_or-set_other l (at + p) i (F p) nan e

  module _ (others : (j : ℕ) → (j ≡ p → ⊥) → (j ≡ q → ⊥) → F j ≡ get_or l (at + j) nan) where
    stored_in : (j : ℕ) → (x : Bool) → eqb j p ≡ x → (y : Bool) → eqb j q ≡ y → get_or stored (at + j) nan ≡ F j
    stored_in j true e true g = absurd (let z = eqb-true j p e in let w = eqb-true j q g in omega arith)
    stored_in j true e false g =
        let z = eqb-true j p e in
        get_or-set_other (set l (at + p) (F p)) (at + q) (at + j) (F q) nan (λ k. omega arith)
        ∙ ap (λ (i : ℕ). get_or (set l (at + p) (F p)) (at + i) nan) z
        ∙ get_or-set_same l (at + p) (F p) nan (omega arith)
        ∙ ap F (sym z)
    stored_in j false e true g =
        let z = eqb-true j q g in
        let long = length-set l (at + p) (F p) in
        ap (λ (i : ℕ). get_or stored (at + i) nan) z ∙ get_or-set_same (set l (at + p) (F p)) (at + q) (F q) nan (omega arith) ∙ ap F (sym z)
    stored_in j false e false g =
        let ne = eqb-false j p e in
        let nf = eqb-false j q g in
        stored_other (at + j) (λ k. ne (omega arith)) (λ k. nf (omega arith)) ∙ sym (others j ne nf)

    stored_at : (i : ℕ) (x : Bool) → ltb i at ≡ x → (y : Bool) → ltb i (at + n) ≡ y → get_or stored i nan ≡ get_or (fill at F n l) i nan
    stored_at i true e y g =
        let z = ltb-true i at e in
        stored_other i (λ k. omega arith) (λ k. omega arith) ∙ sym (fill_before at F n i l nan z)
    stored_at i false e true g =
        let z = ltb-false i at e in
        let w = ltb-true i (at + n) g in
        let j : at + (i - at) ≡ i = omega arith in
        ap (λ (k : ℕ). get_or stored k nan) (sym j)
        ∙ stored_in (i - at) (eqb (i - at) p) refl (eqb (i - at) q) refl
        ∙ sym (fill_in at F n (i - at) l nan (omega arith) (omega arith))
        ∙ ap (λ (k : ℕ). get_or (fill at F n l) k nan) j
    stored_at i false e false g =
        let w = ltb-false i (at + n) g in
        stored_other i (λ k. omega arith) (λ k. omega arith) ∙ sym (fill_after at F n i l nan w)

    two_stored : Filled at F n l stored
    two_stored =
        let long : length stored ≡ length l = length-set (set l (at + p) (F p)) (at + q) (F q) ∙ length-set l (at + p) (F p) in
        record {
          is = ext_get_or nan stored (fill at F n l) (long ∙ sym (length-fill at F n l)) (λ i g. stored_at i (ltb i at) refl (ltb i (at + n)) refl);
          long = long;
        }

-- two columns rotated, row by row
module _ (c s : Float) (n p q : ℕ) (d : List Float) where
  pub columns_none : Filled 0 (by_rows (columns_rotated c s p q (cell n d)) n) (0 * n) d d
  columns_none = filled_to filled_none (omega arith)

  -- one row more
  pub columns_more : (k : ℕ) {at : ℕ} {l : List Float} → Filled 0 (by_rows (columns_rotated c s p q (cell n d)) n) (k * n) d l → at ≡ k * n → k < n → p < q
      → q < n → n * n ≤ length d
      → Filled 0 (by_rows (columns_rotated c s p q (cell n d)) n) ((k + 1) * n) d
      (set (set l (at + p) (c ⊗ get_or l (at + p) nan ⊖ s ⊗ get_or l (at + q) nan)) (at + q) (s ⊗ get_or l (at + p) nan ⊕ c ⊗ get_or l (at + q) nan))
  unfolding cell
  columns_more k {at} {l} r e hk h b m =
      let F : ℕ → Float = columns_rotated c s p q (cell n d) k in
      let w = row_within n k hk in
      let read : (j : ℕ) → get_or l (at + j) nan ≡ cell n d k j =
      λ j. filled_after (at + j) nan r (omega arith) ∙ ap (λ (x : ℕ). get_or d (x + j) nan) e in
      let x : c ⊗ get_or l (at + p) nan ⊖ s ⊗ get_or l (at + q) nan ≡ F p = rw (read p, read q) (sym (columns_first c s n p q (cell n d) k)) in
      let y : s ⊗ get_or l (at + p) nan ⊕ c ⊗ get_or l (at + q) nan ≡ F q = rw (read p, read q) (sym (columns_second c s n p q (cell n d) k h)) in
      let long = r.long in
      let others : (j : ℕ) → (j ≡ p → ⊥) → (j ≡ q → ⊥) → F j ≡ get_or l (at + j) nan =
      λ j u v. columns_other c s n p q (cell n d) k j u v ∙ sym (read j) in
      rw (x, y) (by_rows_more (columns_rotated c s p q (cell n d)) n k r (two_stored at p q n F l h b (omega arith) others) refl e)

  pub columns_rotated_lem : {l : List Float} → Filled 0 (by_rows (columns_rotated c s p q (cell n d)) n) (n * n) d l → p < n → q < n → n * n ≤ length d
      → ColumnsRotated c s n p q d l
  unfolding plain rotate_columns
  columns_rotated_lem r hp hq m = record {
    columns =
        filled_plain n (columns_rotated c s p q (cell n d)) r m
        ∙ matrix_same n (columns_rotated c s p q (cell n d)) (columns_rotated c s p q (cell n (plain n d)))
        (columns_same c s n p q (cell n d) (cell n (plain n d)) (λ i j hi hj. sym (cell-plain n d i j hi hj)) hp hq);
    kept = filled_kept r;
  }
