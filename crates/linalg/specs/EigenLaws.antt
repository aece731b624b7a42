-- What the lists hold after the steps of the solvers. Assumes nothing.
use Rattle.std.specs.Prelude.{◌≡◌, Bool, ℕ, ◌+◌, ◌-◌, ◌*◌, ◌≤◌, ◌<◌, length, take, drop, Float}
use Rattle.std.proofs.Math.Path.{refl, ap, ap₂}
use Rattle.std.proofs.Common.{sym, ◌∙◌, arith, length-append, length-drop, take_at, drop_at, lt-ltb, le-ltb}
use mathlib.Core.List.{List, ◌++◌}
use Rattle.std.specs.Float.Ieee.{nan}
use Rattle.storage.specs.Elements.{from}
use Rattle.storage.specs.Fill.{fill}
use Rattle.storage.specs.Filled.{Filled, filled, filled_in, filled_same}
use Rattle.storage.specs.Store.{fill_front}
use Rattle.storage.specs.Tabulate.{tabulate, length-tabulate}
use Rattle.storage.specs.Rectangle.{by_rows}
use Rattle.matrix.specs.Matrix.{cell, diagonal_cell, diagonal}
use Rattle.matrix.specs.Layout.{flipped, transposed, Kept, kept_then, kept_from, filled_kept, filled_tabulate, filled_exchanged}
use Rattle.householder.specs.Reduction.{subdiagonal_cell}
use Rattle.householder.specs.Reduction.{tridiagonal as reduction}
use Rattle.ql.specs.Ql.{tridiagonal, state, iteration, settled_in, rounds_in}
use Rattle.ql.specs.QlLaws.{held, Counted}
use Rattle.jacobi.specs.Jacobi.{jacobi_values, jacobi_vectors, jacobi_sweeps, jacobi_settled}
use Rattle.linalg.specs.Eigen.{subdiagonal, tridiagonal_of, diagonal_in, product_in, householder_ql, householder_values, householder_vectors}
use Rattle.linalg.specs.Eigen.{householder_rounds, householder_settled, eigen_values, eigen_vectors}
use Rattle.linalg.specs.Eigen.{convergence, householder_convergence, jacobi_convergence, eigen_convergence}
use Rattle.matrix.specs.declared.Convergence.{Convergence}
use Rattle.linalg.specs.Sizes.{length_householder_values, length_householder_vectors, length_jacobi_values, length_jacobi_vectors}

-- the front of a list that was filled there
front_filled : {f : ℕ → Float} {m : ℕ} {d l : List Float} → Filled 0 f m d l → m ≤ length d → take m l ≡ tabulate f 0 m
front_filled {f} {m} {d} r h =
    let e : m - 0 ≡ m = omega arith in
    ap (take m) (filled_tabulate r h) ∙ take_at (tabulate f 0 m) (drop m d) m (length-tabulate f 0 m ∙ e)

-- a list that has the numbers vs at its front, and is d behind them
front_is : {m : ℕ} (vs : List Float) {d l : List Float} → l ≡ vs ++ drop m d → length vs ≡ m → m ≤ length d → Filled 0 (from 0 vs nan) m d l
front_is {m} vs {d} e n h =
    filled 0 (from 0 vs nan) m d
    (e ∙ ap (λ (k : ℕ). vs ++ drop k d) (sym n) ∙ sym (fill_front vs d nan (omega arith)) ∙ ap (λ (k : ℕ). fill 0 (from 0 vs nan) k d) n)

-- a list whose first m numbers were lent and came back as x
pub lent_kept : {m : ℕ} (x d : List Float) → length x ≡ m → m ≤ length d → Kept m d (x ++ drop m d)
lent_kept {m} x d e h = record {
  behind = drop_at x (drop m d) m e;
  long = let s = length-append x (drop m d) in let t = length-drop m d in omega arith;
}

-- ---- the Householder reduction and the QL iteration
module _ (n : ℕ) (a : List Float) where
  -- the iteration begins with the tridiagonal form, which the lists hold after the reduction
  pub iterated : (values work vectors : List Float) {values₀ work₀ d e q : List Float} {k : ℕ} {met : Bool}
      → Filled 0 (diagonal_cell n (reduction n a).matrix) n values₀ values → Filled 0 (subdiagonal_cell n (reduction n a).matrix) n work₀ work
      → transposed n vectors ≡ (reduction n a).orthogonal
      → Counted n (iteration n (held n (take n values) (take n work) vectors)) vectors d e q k met → n ≤ length values₀ → n ≤ length work₀
      → state (held n d e q) k met ≡ householder_ql n a
  unfolding householder_ql tridiagonal_of diagonal subdiagonal
  iterated values work vectors diag sub orth count h g =
      count.is
      ∙ ap (iteration n)
      (ap₂ (λ (x y : List Float). tridiagonal x y (transposed n vectors)) (front_filled diag h) (front_filled sub g)
      ∙ ap (tridiagonal (diagonal n (reduction n a).matrix) (subdiagonal n (reduction n a).matrix)) orth)

  -- what is read of the lists after the iteration
  module _ (d e q : List Float) {k : ℕ} {met : Bool} (done : state (held n d e q) k met ≡ householder_ql n a) where
    pub solved_convergence : convergence met k ≡ householder_convergence n a
    unfolding householder_convergence householder_rounds householder_settled rounds_in settled_in
    solved_convergence = ap₂ convergence (ap settled_in done) (ap rounds_in done)

    -- the part of the list that was lent is the diagonal
    pub solved_values : {values₀ values : List Float} → Filled 0 (diagonal_cell n (reduction n a).matrix) n values₀ values → n ≤ length values₀
        → Filled 0 (from 0 (householder_values n a) nan) n values₀ (d ++ drop n values)
    unfolding householder_values diagonal_in
    solved_values r h =
        front_is (householder_values n a) (ap₂ ◌++◌ (ap diagonal_in done) (filled_kept r).behind) (length_householder_values n a) h

    -- the product is turned from columns to rows in the working list, and copied
    pub solved_vectors : {work₀ work vectors₀ vectors : List Float} → Filled 0 (by_rows (flipped (cell n q)) n) (n * n) work₀ work
        → Filled 0 (from 0 work nan) (n * n) q vectors → Kept (n * n) vectors₀ q → n * n ≤ length work₀ → n * n ≤ length vectors₀
        → Filled 0 (from 0 (householder_vectors n a) nan) (n * n) vectors₀ vectors
    unfolding householder_vectors product_in from
    solved_vectors turned copied kept h g =
        let r = filled_same (by_rows (flipped (cell n q)) n) copied (λ i b. filled_in nan turned b refl (omega arith)) in
        let l = kept.long in
        front_is (householder_vectors n a) (filled_exchanged n q r (omega arith) ∙ ap₂ ◌++◌ (ap product_in done) kept.behind)
        (length_householder_vectors n a) g

-- the working list: the reduction, its first n numbers lent, and the matrix of rows
pub work_kept : (n : ℕ) (e : List Float) {work₀ work work' : List Float} {f : ℕ → Float} → Kept (n * n) work₀ work
    → Filled 0 f (n * n) (e ++ drop n work) work' → length e ≡ n → n ≤ length work → Kept (n * n + 4 * n) work₀ work'
work_kept n e {work₀} {work} r s l h =
    kept_then (kept_from (n * n + 4 * n) (omega arith) r)
    (kept_then (kept_from (n * n + 4 * n) (omega arith) (lent_kept e work l h)) (kept_from (n * n + 4 * n) (omega arith) (filled_kept s)))

-- ---- the choice between the methods
module _ (n : ℕ) (a : List Float) {d l : List Float} where
  pub large_values : 32 < n → Filled 0 (from 0 (householder_values n a) nan) n d l → Filled 0 (from 0 (eigen_values n a) nan) n d l
  unfolding eigen_values
  large_values h r = rw (lt-ltb 32 n h) r

  pub large_vectors : 32 < n → Filled 0 (from 0 (householder_vectors n a) nan) (n * n) d l
      → Filled 0 (from 0 (eigen_vectors n a) nan) (n * n) d l
  unfolding eigen_vectors
  large_vectors h r = rw (lt-ltb 32 n h) r

  pub small_values : n ≤ 32 → l ≡ jacobi_values n a ++ drop n d → n ≤ length d → Filled 0 (from 0 (eigen_values n a) nan) n d l
  unfolding eigen_values
  small_values h e b = rw (le-ltb 32 n h) (front_is (jacobi_values n a) e (length_jacobi_values n a) b)

  pub small_vectors : n ≤ 32 → l ≡ jacobi_vectors n a ++ drop (n * n) d → n * n ≤ length d
      → Filled 0 (from 0 (eigen_vectors n a) nan) (n * n) d l
  unfolding eigen_vectors
  small_vectors h e b = rw (le-ltb 32 n h) (front_is (jacobi_vectors n a) e (length_jacobi_vectors n a) b)

module _ (n : ℕ) (a : List Float) where
  pub large_convergence : {c : Convergence} → 32 < n → c ≡ householder_convergence n a → c ≡ eigen_convergence n a
  unfolding eigen_convergence
  large_convergence h e = rw (lt-ltb 32 n h) e

  pub small-convergence : {met : Bool} {k : ℕ} → n ≤ 32 → k ≡ jacobi_sweeps n a → met ≡ jacobi_settled n a → convergence met k ≡ eigen_convergence n a
  unfolding eigen_convergence jacobi_convergence
  small-convergence h p q = rw (le-ltb 32 n h) (ap₂ convergence q p)
