-- What the lists of the code hold, and one law for each turn of its loops. Assumes nothing.
use Rattle.std.specs.Prelude.{◌≡◌, refl, Bool, false, ℕ, ◌+◌, ◌-◌, ◌*◌, ◌≤◌, ◌<◌, length, Float}
use Rattle.std.proofs.Math.Path.{sym, ap, ap₂}
use Rattle.std.proofs.Common.{◌∙◌}
use Rattle.std.proofs.Math.Bool.{true, cond}
use mathlib.Core.List.{List, ◌++◌}
use Rattle.std.proofs.Math.ListN.{drop}
use Rattle.std.specs.Float.{nan}
use Rattle.std.specs.Float.Ieee.{eq, le}
use Rattle.number.specs.Float64.{◌⊗◌, double, zero64}
use Rattle.storage.specs.Elements.{from}
use Rattle.storage.specs.Filled.{Filled, filled_to}
use Rattle.storage.specs.Rectangle.{by_rows}
use Rattle.storage.specs.Iterate.{iterate, iterate_step, iterate_done, iterate_until, until_stop, until_step, until_done}
use Rattle.matrix.specs.Matrix.{cell, kronecker, diagonal_cell, diagonal, rotate_rows}
use Rattle.matrix.specs.Layout.{plain, transposed, flipped, Kept, kept_none, kept_then, copied_plain, identity-transposed, filled_diagonal}
use Rattle.matrix.specs.Layout.{filled_exchanged, RowsRotated, ColumnsRotated}
use Rattle.jacobi.specs.Jacobi.{Matrices, matrices, State, state, squares, off_squares, ratio, tangent, cosine, rotate, rotate_by, rotate_at}
use Rattle.jacobi.specs.Jacobi.{is_small, sweep, sweep_unless_small, settled_in, sweeps_in, matrix_in, product_in, sweeps}
use Rattle.jacobi.specs.Jacobi.{jacobi, jacobi_values, jacobi_vectors, jacobi_sweeps, jacobi_settled}

-- the matrix that stands in the list a row by row, and the product that stands in the list v column by column
abbrev pub held : ℕ → List Float → List Float → Matrices
held n a v = matrices (plain n a) (transposed n v)

-- the lists a₀ and v₀ became a and v, which hold m, and are as they were past their n * n numbers
pub record Became (n : ℕ) (m : Matrices) (a₀ v₀ a v : List Float) : Type 0 where
  pub is : held n a v ≡ m
  pub matrix : Kept (n * n) a₀ a
  pub product : Kept (n * n) v₀ v

pub became_that : {n : ℕ} {m m' : Matrices} {a₀ v₀ a v : List Float} → Became n m a₀ v₀ a v → m ≡ m' → Became n m' a₀ v₀ a v
became_that r e = record { is = r.is ∙ e; matrix = r.matrix; product = r.product }

-- ---- one rotation
-- the columns and then the rows of the matrix, and the columns of the product, which are runs
pub rotated : {c s : Float} {n p q : ℕ} {a₀ a₁ a v₀ v : List Float} → ColumnsRotated c s n p q a₀ a₁ → RowsRotated c s n p q a₁ a → RowsRotated c s n p q v₀ v
    → Became n (rotate c s n p q (held n a₀ v₀)) a₀ v₀ a v
unfolding rotate
rotated {c} {s} {n} {p} {q} columns rows product = record {
  is = ap₂ matrices (rows.rows ∙ ap (rotate_rows c s n p q) columns.columns) product.columns;
  matrix = kept_then columns.kept rows.kept;
  product = product.kept;
}

module _ (n p q : ℕ) (a v : List Float) where
  pub rotate_none : eq (cell n a p q) zero64 ≡ true → matrices a v ≡ rotate_at n p q (matrices a v)
  unfolding rotate_at
  rotate_none h = simp h

  pub rotate_some : {t c : Float} → eq (cell n a p q) zero64 ≡ false → t ≡ tangent (ratio n p q a) → c ≡ cosine t
      → rotate c (t ⊗ c) n p q (matrices a v) ≡ rotate_at n p q (matrices a v)
  unfolding rotate_at rotate_by
  rotate_some {t} h e g =
      ap (λ (x : Float). rotate x (t ⊗ x) n p q (matrices a v)) g
      ∙ ap (λ (x : Float). rotate_by x n p q (matrices a v)) e
      ∙ sym (ap (λ (b : Bool). cond b (matrices a v) (rotate_by (tangent (ratio n p q a)) n p q (matrices a v))) h)

-- ---- the loops over the rotations: with the turns from i on still to come, the lists will hold m
pub record Becomes (f : ℕ → Matrices → Matrices) (n i : ℕ) (m : Matrices) (a₀ v₀ a v : List Float) : Type 0 where
  pub is : iterate f i n (held n a v) ≡ m
  pub matrix : Kept (n * n) a₀ a
  pub product : Kept (n * n) v₀ v

module _ {f : ℕ → Matrices → Matrices} {n i : ℕ} where
  pub becomes_first : {a v : List Float} → Becomes f n i (iterate f i n (held n a v)) a v a v
  becomes_first = record { is = refl; matrix = kept_none; product = kept_none }

  module _ {m : Matrices} {a₀ v₀ a v : List Float} (r : Becomes f n i m a₀ v₀ a v) where
    pub becomes_more : {a' v' : List Float} → i < n → Became n (f i (held n a v)) a v a' v' → Becomes f n (i + 1) m a₀ v₀ a' v'
    becomes_more h b = record {
      is = ap (iterate f (i + 1) n) b.is ∙ sym (iterate_step f i n (held n a v) h) ∙ r.is;
      matrix = kept_then r.matrix b.matrix;
      product = kept_then r.product b.product;
    }

    pub becomes_done : n ≤ i → Became n m a₀ v₀ a v
    becomes_done h = record { is = sym (iterate_done f i n (held n a v) h) ∙ r.is; matrix = r.matrix; product = r.product }

-- ---- the loop over the sweeps
-- the test, from the sum that the code computed
pub small_is : (n : ℕ) (scale : Float) (a v : List Float) {off : Float} {b : Bool} → off ≡ off_squares n (plain n a)
    → le off (double 0x38e0_9d87_92fb_4c49 ⊗ scale) ≡ b → is_small n scale (held n a v) ≡ b
unfolding is_small
small_is n scale a v e h = ap (λ (x : Float). le x (double 0x38e0_9d87_92fb_4c49 ⊗ scale)) (sym e) ∙ h

-- what the turns from the k-th on make of a state
unfoldable pub sweeps_from : ℕ → ℕ → Float → State → State
sweeps_from k n scale s = iterate_until settled_in (sweep_unless_small n scale) (100 - k) s

-- k sweeps are done and the test was not met so far; with the turns still to come the state will be s
pub record Sweeping (n : ℕ) (scale : Float) (k : ℕ) (s : State) (a₀ v₀ a v : List Float) : Type 0 where
  pub is : sweeps_from k n scale (state (held n a v) k false) ≡ s
  pub matrix : Kept (n * n) a₀ a
  pub product : Kept (n * n) v₀ v

one_turn : (n : ℕ) (scale : Float) (m : Matrices) (k : ℕ) → k < 100 → (b : Bool) → is_small n scale m ≡ b
    → sweeps_from k n scale (state m k false) ≡ sweeps_from (k + 1) n scale (cond b (state m k true) (state (sweep n m) (k + 1) false))
unfolding sweeps_from sweep_unless_small settled_in
one_turn n scale m k h b e =
    until_step settled_in (sweep_unless_small n scale) k 100 (state m k false) h refl
    ∙ ap (λ (b : Bool). sweeps_from (k + 1) n scale (cond b (state m k true) (state (sweep n m) (k + 1) false))) e

module _ {n : ℕ} {scale : Float} where
  pub sweeping_first : {a v : List Float} → Sweeping n scale 0 (sweeps n scale (held n a v)) a v a v
  unfolding sweeps_from sweeps
  sweeping_first = record { is = refl; matrix = kept_none; product = kept_none }

  module _ {k : ℕ} {s : State} {a₀ v₀ a v : List Float} (r : Sweeping n scale k s a₀ v₀ a v) where
    -- the test is not met
    pub sweeping_more : {a' v' : List Float} → k < 100 → is_small n scale (held n a v) ≡ false → Became n (sweep n (held n a v)) a v a' v'
        → Sweeping n scale (k + 1) s a₀ v₀ a' v'
    sweeping_more h e b = record {
      is =
          ap (λ (m : Matrices). sweeps_from (k + 1) n scale (state m (k + 1) false)) b.is ∙ sym (one_turn n scale (held n a v) k h false e) ∙ r.is;
      matrix = kept_then r.matrix b.matrix;
      product = kept_then r.product b.product;
    }

    -- it is met
    pub sweeping_settled : k < 100 → is_small n scale (held n a v) ≡ true → state (held n a v) k true ≡ s
    unfolding sweeps_from settled_in
    sweeping_settled h e =
        sym
        (one_turn n scale (held n a v) k h true e
        ∙ until_stop settled_in (sweep_unless_small n scale) (100 - (k + 1)) (state (held n a v) k true) refl)
        ∙ r.is

    -- it never was
    pub sweeping_over : 100 ≤ k → state (held n a v) k false ≡ s
    unfolding sweeps_from
    sweeping_over h = sym (until_done settled_in (sweep_unless_small n scale) k 100 (state (held n a v) k false) h) ∙ r.is

-- ---- the whole
-- the matrix a was copied and the identity written, and then the sweeps were done
pub diagonalized : (n : ℕ) (a : List Float) {a₀ v₀ a₁ v₁ : List Float} {scale : Float} {s : State} → Filled 0 (from 0 a nan) (length a) a₀ a₁
    → Filled 0 (by_rows kronecker n) (n * n) v₀ v₁ → scale ≡ squares a → s ≡ sweeps n scale (held n a₁ v₁) → length a ≡ n * n → n * n ≤ length a₀
    → n * n ≤ length v₀ → s ≡ jacobi n a
unfolding jacobi
diagonalized n a copied unit sum done e la lv =
    done ∙ ap₂ (sweeps n) sum (ap₂ matrices (copied_plain n a (filled_to copied e) e la) (identity-transposed n unit lv))

-- what is read of the state after them
module _ (n : ℕ) (a : List Float) (matrix product : List Float) {k : ℕ} {t : Bool} (done : state (held n matrix product) k t ≡ jacobi n a) where
  pub solved_sweeps : k ≡ jacobi_sweeps n a
  unfolding jacobi_sweeps sweeps_in
  solved_sweeps = ap sweeps_in done

  pub solved_settled : t ≡ jacobi_settled n a
  unfolding jacobi_settled settled_in
  solved_settled = ap settled_in done

  pub solved_values : {d l : List Float} → Filled 0 (diagonal_cell n matrix) n d l → n ≤ length d → l ≡ jacobi_values n a ++ drop n d
  unfolding jacobi_values matrix_in
  solved_values {d} r h = filled_diagonal n matrix r h ∙ ap (λ (s : State). diagonal n (matrix_in s) ++ drop n d) done

  pub solved_vectors : {d l : List Float} → Filled 0 (by_rows (flipped (cell n product)) n) (n * n) matrix l → n * n ≤ length matrix → Kept (n * n) d matrix
      → l ≡ jacobi_vectors n a ++ drop (n * n) d
  unfolding jacobi_vectors product_in
  solved_vectors r h kept = filled_exchanged n product r h ∙ ap₂ ◌++◌ (ap product_in done) kept.behind
