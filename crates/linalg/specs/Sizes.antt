-- How many numbers the solvers answer: n values, and n * n numbers of the vectors. Assumes nothing.
use Rattle.std.specs.Prelude.{◌≡◌, Bool, true, false, cond, List, ℕ, ◌+◌, ◌-◌, ◌*◌, ltb, eqb, length, set, Float, None, Some}
use Rattle.std.proofs.Common.{◌∙◌, arith, length-set}
use Rattle.std.specs.Float.Ieee.{eq}
use Rattle.number.specs.Float64.{◌⊖◌, ◌⊗◌, zero64}
use Rattle.storage.specs.Iterate.{iterate_keeps, until_keeps, down_keeps}
use Rattle.storage.specs.Tabulate.{length-tabulate}
use Rattle.matrix.specs.Matrix.{kronecker, identity, diagonal_cell, diagonal, cell, columns_rotated, rotate_columns, length_matrix}
use Rattle.jacobi.specs.Jacobi.{Matrices, matrices, squares, ratio, tangent, cosine, rotate, rotate_by, rotate_at, sweep_row, sweep, is_small}
use Rattle.jacobi.specs.Jacobi.{sweep_unless_small, matrix_in, sweeps, jacobi, jacobi_values, jacobi_vectors}
use Rattle.jacobi.specs.Jacobi.{State as Swept, state as swept, settled_in as sweepsSettled, product_in as rotationsIn}
use Rattle.householder.specs.Reduction.{Reduction, norm, column_of, householder_vector, reflected, accumulated_cell, accumulated, reflection, reductions}
use Rattle.householder.specs.Reduction.{reduction_of, tridiagonal as reduction}
use Rattle.ql.specs.declared.Rotation.{Rotation}
use Rattle.ql.specs.Ql.{Tridiagonal, tridiagonal, at, next, Chase, chase, rotated, rotate_sized, broken_off, rotations, closed, round, State, state}
use Rattle.ql.specs.Ql.{end_in, round_unless_alone, settled_in, rounds, and_before, rounds_at, iteration, rotate_by as chaseBy, rotate_at as chaseAt}
use Rattle.linalg.specs.Eigen.{tridiagonal_of, diagonal_in, product_in, householder_ql, householder_values, householder_vectors, eigen_values, eigen_vectors}

-- either way through a test
either : {A : Type 0} (P : A → Type 0) (b : Bool) (x y : A) → P x → P y → P (cond b x y)
either P true x y h g = h
either P false x y h g = g

length-diagonal : (n : ℕ) (a : List Float) → length (diagonal n a) ≡ n
unfolding diagonal
length-diagonal n a = let e : n - 0 ≡ n = omega arith in length-tabulate (diagonal_cell n a) 0 n ∙ e

length_rotated : (n : ℕ) (c s : Float) (p q : ℕ) (a : List Float) → length (rotate_columns c s n p q a) ≡ n * n
unfolding rotate_columns
length_rotated n c s p q a = length_matrix n (columns_rotated c s p q (cell n a))

length-identity : (n : ℕ) → length (identity n) ≡ n * n
unfolding identity
length-identity n = length_matrix n kronecker

-- ---- by Jacobi rotations
module _ (n : ℕ) where
  abbrev Square : Matrices → Type 0
  Square (matrices a v) = length v ≡ n * n

  abbrev SquareIn : Swept → Type 0
  SquareIn (swept m k t) = Square m

  square_rotation : (p q : ℕ) (m : Matrices) → Square m → Square (rotate_at n p q m)
  unfolding rotate_at rotate_by rotate
  square_rotation p q (matrices a v) h =
      let t = tangent (ratio n p q a) in
      either Square (eq (cell n a p q) zero64) (matrices a v) (rotate_by t n p q (matrices a v)) h (length_rotated n (cosine t) (t ⊗ cosine t) p q v)

  square-sweep : (m : Matrices) → Square m → Square (sweep n m)
  unfolding sweep sweep_row
  square-sweep = iterate_keeps Square (sweep_row n) (λ p. iterate_keeps Square (rotate_at n p) (square_rotation p) (p + 1) n) 0 n

  square_turn : (scale : Float) (s : Swept) → SquareIn s → SquareIn (sweep_unless_small n scale s)
  unfolding sweep_unless_small
  square_turn scale (swept m k t) h = either SquareIn (is_small n scale m) (swept m k true) (swept (sweep n m) (k + 1) t) h (square-sweep m h)

  square-jacobi : (a : List Float) → SquareIn (jacobi n a)
  unfolding jacobi sweeps
  square-jacobi a =
      until_keeps SquareIn sweepsSettled (sweep_unless_small n (squares a)) (square_turn (squares a)) 100 (swept (matrices a (identity n)) 0 false)
      (length-identity n)

  square_in : (s : Swept) → SquareIn s → length (rotationsIn s) ≡ n * n
  unfolding rotationsIn
  square_in (swept (matrices a v) k t) h = h

  pub length_jacobi_values : (a : List Float) → length (jacobi_values n a) ≡ n
  unfolding jacobi_values
  length_jacobi_values a = length-diagonal n (matrix_in (jacobi n a))

  pub length_jacobi_vectors : (a : List Float) → length (jacobi_vectors n a) ≡ n * n
  unfolding jacobi_vectors
  length_jacobi_vectors a = square_in (jacobi n a) (square-jacobi a)

-- ---- by Householder reduction and QL iteration
module _ (n : ℕ) where
  abbrev SquareReduction : Reduction → Type 0
  SquareReduction s = length s.orthogonal ≡ n * n

  square-reflection : (k : ℕ) (s : Reduction) → SquareReduction s → SquareReduction (reflection n k s)
  unfolding reflection accumulated
  square-reflection k s h =
      let size = norm (column_of n s.matrix k) (k + 1) n in
      let v = householder_vector n k size (column_of n s.matrix k) in
      either SquareReduction (eq size zero64) s (reduction_of (reflected n k s.matrix v) (accumulated n k s.orthogonal v)) h
      (length_matrix n (accumulated_cell n k s.orthogonal v))

  square_reduction : (a : List Float) → SquareReduction (reduction n a)
  unfolding reduction reductions
  square_reduction a =
      iterate_keeps SquareReduction (reflection n) square-reflection 0 (n - 2) (reduction_of a (identity n)) (length-identity n)

  -- the diagonal has n numbers and the product n * n
  abbrev Sized : Tridiagonal → Type 0
  Sized (tridiagonal d e q) = (length d ≡ n) × (length q ≡ n * n)

  abbrev SizedChase : Chase → Type 0
  SizedChase (chase t x) = Sized t

  abbrev SizedIn : State → Type 0
  SizedIn (state t k met) = Sized t

  sized_by : (m i : ℕ) (r f b : Float) (t : Tridiagonal) (x : Rotation) → Sized t → SizedChase (chaseBy n m i r f b t x)
  unfolding chaseBy rotated
  sized_by m i r f b (tridiagonal d e q) x h =
      let y = next x (at d i) (at d (i + 1)) f b r in
      either SizedChase (eq r zero64) (chase (tridiagonal (set d (i + 1) (at d (i + 1) ⊖ x.p)) (set e m zero64) q) None)
      (rotated n i (at d (i + 1) ⊖ x.p) y d e q) (length-set d _ _ ∙ h.0, h.1)
      (length-set d _ _ ∙ h.0, length_rotated n y.c y.s i (i + 1) q)

  sized_rotation : (m i : ℕ) (c : Chase) → SizedChase c → SizedChase (chaseAt n m i c)
  unfolding chaseAt rotate_sized
  sized_rotation m i (chase t None) h = h
  sized_rotation m i (chase (tridiagonal d e q) (Some x)) h = sized_by m i _ _ _ (tridiagonal d (set e (i + 1) _) q) x h

  sized-closed : (l m : ℕ) (c : Chase) → SizedChase c → Sized (closed l m c)
  unfolding closed
  sized-closed l m (chase t None) h = h
  sized-closed l m (chase (tridiagonal d e q) (Some x)) h = (length-set d _ _ ∙ h.0, h.1)

  sized-round : (l m : ℕ) (t : Tridiagonal) → Sized t → Sized (round n l m t)
  unfolding round rotations
  sized-round l m (tridiagonal d e q) h = sized-closed l m _ (down_keeps SizedChase broken_off (chaseAt n m) (sized_rotation m) l (m - l) _ h)

  sized_turn : (l : ℕ) (s : State) → SizedIn s → SizedIn (round_unless_alone n l s)
  unfolding round_unless_alone
  sized_turn l (state t k met) h =
      let m = end_in n l t in
      either SizedIn (eqb m l) (state t k true) (state (round n l m t) (k + 1) met) h (sized-round l m t h)

  sized_before : (before : Bool) (s : State) → SizedIn s → SizedIn (and_before before s)
  sized_before before (state t k met) h = h

  sized-rounds : (l : ℕ) (s : State) → SizedIn s → SizedIn (rounds_at n l s)
  unfolding rounds_at rounds
  sized-rounds l (state t k before) h =
      sized_before before (rounds n l t k) (until_keeps SizedIn settled_in (round_unless_alone n l) (sized_turn l) 100 (state t k false) h)

  sized-iteration : (t : Tridiagonal) → Sized t → SizedIn (iteration n t)
  unfolding iteration
  sized-iteration t h = iterate_keeps SizedIn (rounds_at n) sized-rounds 0 n (state t 0 true) h

  sized_householder : (a : List Float) → SizedIn (householder_ql n a)
  unfolding householder_ql tridiagonal_of
  sized_householder a = sized-iteration _ (length-diagonal n _, square_reduction a)

  sized_in : (s : State) → SizedIn s → (length (diagonal_in s) ≡ n) × (length (product_in s) ≡ n * n)
  unfolding diagonal_in product_in
  sized_in (state (tridiagonal d e q) k t) h = h

  pub length_householder_values : (a : List Float) → length (householder_values n a) ≡ n
  unfolding householder_values
  length_householder_values a = (sized_in (householder_ql n a) (sized_householder a)).0

  pub length_householder_vectors : (a : List Float) → length (householder_vectors n a) ≡ n * n
  unfolding householder_vectors
  length_householder_vectors a = (sized_in (householder_ql n a) (sized_householder a)).1

-- ---- by either
pub length_values : (n : ℕ) (a : List Float) → length (eigen_values n a) ≡ n
unfolding eigen_values
length_values n a =
    either (λ (l : List Float). length l ≡ n) (ltb 32 n) (householder_values n a) (jacobi_values n a) (length_householder_values n a)
    (length_jacobi_values n a)

pub length_vectors : (n : ℕ) (a : List Float) → length (eigen_vectors n a) ≡ n * n
unfolding eigen_vectors
length_vectors n a =
    either (λ (l : List Float). length l ≡ n * n) (ltb 32 n) (householder_vectors n a) (jacobi_vectors n a) (length_householder_vectors n a)
    (length_jacobi_vectors n a)
