-- The matrix and its vectors in the tail of the working list, which is lent twice: to the sums that make the matrix, and to the solver. Assumes nothing.
use Rattle.std.specs.Prelude.{◌≡◌, ℕ, ◌+◌, ◌-◌, ◌*◌, ◌≤◌, length, take, drop, Float}
use Rattle.std.proofs.Math.Path.{refl, sym, ap}
use Rattle.std.proofs.Common.{subst, ◌∙◌, get_or-drop}
use mathlib.Core.List.{List}
use native.Mathlib.Omega.{arith}
use Rattle.std.proofs.Math.ListN.{get_or}
use Rattle.std.specs.Float.Ieee.{nan}
use Rattle.storage.specs.Elements.{from}
use Rattle.storage.specs.Filled.{Filled, filled_in}
use Rattle.storage.specs.Rectangle.{by_rows, by_row}
use Rattle.storage.specs.Triangle.{table_size}
use Rattle.matrix.specs.Matrix.{cell, matrix_of, cell-within}
use Rattle.matrix.specs.Layout.{flipped, plain, transposed, Kept, kept_then, kept_from, filled_kept, filled_plain, filled_transposed}
use Rattle.householder_within.specs.Within.{Mirrored, back, back_behind, back_long, back-kept, lent_whole, lent_long}
use Rattle.matrix.specs.declared.Convergence.{Convergence}
use Rattle.linalg.specs.Eigen.{eigen_values, eigen_vectors, eigen_convergence, eigen_limit}
use Rattle.linalg.specs.Limits.{eigen_count_limit}
use Rattle.linalg.specs.Within.{VectorsBehind}
use Rattle.region_nodes.specs.Basis.{basis_size}
use Rattle.region_nodes.specs.Regions.{region_cell, concentration_matrix}
use Rattle.region_nodes.specs.NodeLaws.{degree_within}
use Rattle.regions.specs.Symmetry.{matrix_flipped}
use Rattle.region.specs.Region.{region_work, region_convergence}
use Rattle.region.specs.Storage.{VectorsIn}

-- the tail holds the matrix, the vectors and the solver's numbers: a record, whose fields `omega` finds
pub record SolveRoom (L n at work : ℕ) : Type 0 where
  pub few : n ≤ 484
  pub near : at ≤ 759
  pub used : at + (n * n + (n * n + 4 * n)) ≤ region_work L
  pub long : at + (n * n + (n * n + 4 * n)) ≤ work

pub solve_room : {L n at work : ℕ} → L ≤ 21 → n ≡ basis_size L → at ≡ 3 * table_size L → region_work L ≤ work → SolveRoom L n at work
unfolding region_work
solve_room {L} {n} h en ea room =
    let d = degree_within 0 L (omega arith) h in
    let square = ap (λ (x : ℕ). x * x) en in
    record { few = omega (arith, d, en); near = omega (arith, d, ea); used = omega (arith, square, en, ea); long = omega (arith, square, en, ea) }

module _ (L : ℕ) (weights lats : List Float) (marks : List ℕ) (s c : List Float) (nodes : ℕ) (w : List Float) {n at m : ℕ} {y : List Float}
    (en : n ≡ basis_size L) (room : SolveRoom L n at (length w)) (em : m ≡ length w - at)
    (made : Filled 0 (by_rows (region_cell L weights lats marks s c nodes) (basis_size L)) (basis_size L * basis_size L) (take m (drop at w)) y) where
  abbrev R : ℕ → ℕ → Float
  R = region_cell L weights lats marks s c nodes

  abbrev D : List Float
  D = concentration_matrix L weights lats marks s c nodes

  -- the working list with the matrix in its tail, and the tail that is lent to the solver
  abbrev w₁ : List Float
  w₁ = back at m w y

  abbrev m₁ : ℕ
  m₁ = length w₁ - at

  inside : at ≤ length w
  inside = omega (arith, room)

  matrix_in_lem : Filled 0 (by_rows R n) (n * n) (take m (drop at w)) y
  matrix_in_lem = subst (λ (x : ℕ). Filled 0 (by_rows R x) (x * x) (take m (drop at w)) y) (sym en) made

  lent_room : n * n ≤ length (take m (drop at w))
  lent_room = omega (arith, room, lent_long at m w em, em)

  pub matrix_long : length w₁ ≡ length w
  matrix_long = back_long at m w y em inside made.long

  tail : take m₁ (drop at w₁) ≡ y
  tail = lent_whole at m₁ w₁ refl ∙ back_behind at m w y em inside made.long

  pub tail_long : n * n + (n * n + 4 * n) ≤ length (take m₁ (drop at w₁))
  tail_long = omega (arith, room, matrix_long, lent_long at m₁ w₁ refl)

  tail_plain : plain n (take m₁ (drop at w₁)) ≡ D
  unfolding concentration_matrix
  tail_plain = ap (plain n) tail ∙ filled_plain n R matrix_in_lem lent_room ∙ ap (λ (x : ℕ). matrix_of x R) en

  pub tail_mirrored : Mirrored n (take m₁ (drop at w₁))
  tail_mirrored = record {
    is =
        ap (transposed n) tail
        ∙ filled_transposed n R matrix_in_lem lent_room
        ∙ matrix_flipped L weights lats marks s c nodes n
        ∙ sym (ap (plain n) tail ∙ filled_plain n R matrix_in_lem lent_room);
  }

  pub solved_values : {d v : List Float} → Filled 0 (from 0 (eigen_values n (plain n (take m₁ (drop at w₁)))) nan) n d v
      → Filled 0 (from 0 (eigen_values n D) nan) n d v
  solved_values {d} {v} r = subst (λ (x : List Float). Filled 0 (from 0 (eigen_values n x) nan) n d v) tail_plain r

  pub solved_convergence : {x : Convergence} → x ≡ eigen_convergence n (plain n (take m₁ (drop at w₁))) → x ≡ eigen_convergence n D
  solved_convergence e = e ∙ ap (eigen_convergence n) tail_plain

  module _ {z : List Float} (kept : Kept (n * n + (n * n + 4 * n)) (take m₁ (drop at w₁)) z) where
    inside₁ : at ≤ length w₁
    inside₁ = omega (arith, inside, matrix_long)

    pub solved_vectors : VectorsBehind n (eigen_vectors n (plain n (take m₁ (drop at w₁)))) z → VectorsIn n (at + n * n) D (back at m₁ w₁ z)
    unfolding flipped
    solved_vectors v = record {
      are = λ k j h g.
          let vs = eigen_vectors n (plain n (take m₁ (drop at w₁))) in
          let i = n * n + (k * n + j) in
          let e : at + n * n + (k * n + j) ≡ at + i = omega arith in
          let b = cell-within n k j h g in
          ap (λ (x : ℕ). get_or (back at m₁ w₁ z) x nan) e
          ∙ sym (get_or-drop at (back at m₁ w₁ z) i nan)
          ∙ ap (λ (x : List Float). get_or x i nan) (back_behind at m₁ w₁ z refl inside₁ kept.long)
          ∙ filled_in {i = i} {j = k * n + j} nan v.are b refl (omega (arith, b, kept.long, tail_long))
          ∙ by_row (flipped (cell n vs)) n k j g
          ∙ ap (λ (x : List Float). cell n (eigen_vectors n x) j k) tail_plain;
    }

    pub solved_kept : Kept (region_work L) w (back at m₁ w₁ z)
    solved_kept =
        kept_then
        (kept_from (region_work L) (omega (arith, room)) (back-kept at m w y em inside made.long (n * n) (filled_kept matrix_in_lem)))
        (kept_from (region_work L) room.used (back-kept at m₁ w₁ z refl inside₁ kept.long (n * n + (n * n + 4 * n)) kept))

-- in the words of the call
pub region-convergence : (L : ℕ) (D : List Float) {n : ℕ} {x : Convergence} → n ≡ basis_size L → x ≡ eigen_convergence n D → x ≡ region_convergence L D
unfolding region_convergence
region-convergence L D en e = e ∙ ap (λ (k : ℕ). eigen_convergence k D) en

pub region_count_limit : (L : ℕ) (D : List Float) → (region_convergence L D).count ≤ eigen_limit (basis_size L)
unfolding region_convergence
region_count_limit L D = eigen_count_limit (basis_size L) D
