-- Two matrices in one list, column by column: one at its front, one from index `at` on. Assumes nothing.
use Rattle.std.specs.Prelude.{◌≡◌, ℕ, ◌+◌, ◌-◌, ◌*◌, ◌≤◌, ◌<◌, take, drop, true, false, Float}
use Rattle.std.proofs.Math.Path.{sym, ap}
use Rattle.std.proofs.Common.{ap₂, ◌∙◌, arith, length-drop, length-append, drop_of_length-le, length-take-le, take_all, take_at, drop_at, drop-drop}
use mathlib.Core.List.{List, ◌++◌, append-nil}
use Rattle.std.proofs.Math.ListN.{length, get_or}
use Rattle.std.proofs.Math.Seq.{get_or-take}
use Rattle.std.specs.Float.Ieee.{nan, eq}
use Rattle.number.specs.Float64.{zero64}
use Rattle.storage.specs.Elements.{from}
use Rattle.storage.specs.Filled.{Filled}
use Rattle.storage.specs.Rectangle.{by_rows}
use Rattle.matrix.specs.Matrix.{cell, kronecker, cell-within, matrix_same}
use Rattle.matrix.specs.Layout.{flipped, plain, transposed, Kept, kept_then, kept_from, filled_kept, identity-transposed}
use Rattle.householder.specs.Reduction.{Reduction, reduction_of, norm, householder_vector, reflected, accumulated, reflection}
use Rattle.householder.specs.Reduction.{reductions, tridiagonal}
use Rattle.householder.specs.ReflectionLaws.{cleared_none, cleared}

-- the reduction that a list holds
unfoldable pub held_within : ℕ → ℕ → List Float → Reduction
held_within n at w = reduction_of (transposed n w) (transposed n (drop at w))

-- w has room for both matrices, one behind the other
pub record RoomWithin (n at : ℕ) (w : List Float) : Type 0 where
  pub small : n ≤ 512
  pub apart : n * n ≤ at
  pub long : at + n * n ≤ length w

-- the matrix at the front of w is symmetric bit for bit
pub record Mirrored (n : ℕ) (w : List Float) : Type 0 where
  pub is : transposed n w ≡ plain n w

pub room_kept : {n at m : ℕ} {w w' : List Float} → RoomWithin n at w → Kept m w w' → RoomWithin n at w'
room_kept r k = record { small = r.small; apart = r.apart; long = omega (arith, k.long, r.long) }

-- a list whose numbers from index `at` on were lent and came back as y
abbrev pub back : ℕ → ℕ → List Float → List Float → List Float
back at m w y = take at w ++ (y ++ drop m (drop at w))

pub lent_whole : (at m : ℕ) (w : List Float) → m ≡ length w - at → take m (drop at w) ≡ drop at w
lent_whole at m w e = take_all m (drop at w) (omega (arith, length-drop at w))

pub lent_long : (at m : ℕ) (w : List Float) → m ≡ length w - at → length (take m (drop at w)) ≡ length w - at
lent_long at m w e = ap length (lent_whole at m w e) ∙ length-drop at w

module _ (at m : ℕ) (w y : List Float) (e : m ≡ length w - at) (h : at ≤ length w) (g : length y ≡ length (take m (drop at w))) where
  back_is : back at m w y ≡ take at w ++ y
  back_is =
      ap (λ (x : List Float). take at w ++ (y ++ x)) (drop_of_length-le (drop at w) {i = m} (omega (arith, length-drop at w)))
      ∙ ap (λ (x : List Float). take at w ++ x) (append-nil y)

  pub back_behind : drop at (back at m w y) ≡ y
  back_behind = ap (drop at) back_is ∙ drop_at (take at w) y at (length-take-le at w h)

  back_front : take at (back at m w y) ≡ take at w
  back_front = ap (take at) back_is ∙ take_at (take at w) y at (length-take-le at w h)

  pub back_long : length (back at m w y) ≡ length w
  back_long =
      let a = ap length back_is in
      let b = length-append (take at w) y in
      let c = length-take-le at w h in
      let d = lent_long at m w e in
      omega arith

  -- the matrix at the front is as it was
  back_matrix : (n : ℕ) → n * n ≤ at → transposed n (back at m w y) ≡ transposed n w
  unfolding transposed flipped cell
  back_matrix n b =
      matrix_same n (flipped (cell n (back at m w y))) (flipped (cell n w))
      (λ i j hi hj.
      let k = cell-within n j i hj hi in
      sym (get_or-take at (back at m w y) (j * n + i) nan (omega arith))
      ∙ ap (λ (x : List Float). get_or x (j * n + i) nan) back_front
      ∙ get_or-take at w (j * n + i) nan (omega arith))

  -- and what stands behind the numbers that were lent for writing is kept
  pub back-kept : (k : ℕ) → Kept k (take m (drop at w)) y → Kept (at + k) w (back at m w y)
  back-kept k r = record {
    behind =
        sym (drop-drop k at (back at m w y))
        ∙ ap (drop k) back_behind
        ∙ r.behind
        ∙ ap (drop k) (lent_whole at m w e)
        ∙ drop-drop k at w;
    long = back_long;
  }

-- ---- one turn
module _ (n k at : ℕ) (w : List Float) {column : ℕ} {size : Float} (c : column ≡ k * n) (h : k < n) (s : size ≡ norm (from column w nan) (k + 1) n) where
  pub cleared_none_within : eq size zero64 ≡ true → held_within n at w ≡ reflection n k (held_within n at w)
  unfolding held_within
  cleared_none_within z = cleared_none n k w (drop at w) c h s z

  -- the front matrix becomes w₁, and then the part from `at` on, which was lent, y
  pub cleared_within : (m : ℕ) (w₁ y : List Float) {d v : List Float} → eq size zero64 ≡ false
      → Filled 0 (householder_vector n k size (from column w nan)) n d v → n ≤ length d
      → transposed n w₁ ≡ reflected n k (transposed n w) (from 0 v nan) → Kept (n * n) w w₁
      → transposed n y ≡ accumulated n k (transposed n (take m (drop at w₁))) (from 0 v nan) → Kept (n * n) (take m (drop at w₁)) y
      → m ≡ length w₁ - at → RoomWithin n at w
      → (held_within n at (back at m w₁ y) ≡ reflection n k (held_within n at w))
      × Kept (at + n * n) w (back at m w₁ y)
  unfolding held_within
  cleared_within m w₁ y {d} {v} z f b ea ka eq' kq e r =
      let inside : at ≤ length w₁ = omega (arith, r.long, ka.long) in
      let same : transposed n (take m (drop at w₁)) ≡ transposed n (drop at w) =
      ap (transposed n) (lent_whole at m w₁ e ∙ (kept_from at r.apart ka).behind) in (
        cleared n k w (drop at w) c h s z f b (back_matrix at m w₁ y e inside kq.long n r.apart ∙ ea)
            (ap (transposed n) (back_behind at m w₁ y e inside kq.long) ∙ eq' ∙ ap (λ (x : List Float). accumulated n k x (from 0 v nan)) same),
        kept_then (kept_from (at + n * n) (omega arith) ka) (back-kept at m w₁ y e inside kq.long (n * n) kq),
      )

-- ---- the whole reduction
-- the identity, written in the part from `at` on, which was lent and came back as y, and then all reflections, which leave w'
module _ {n at m : ℕ} {w y : List Float} (w' : List Float) (s : Mirrored n w) (r : RoomWithin n at w) (e : m ≡ length w - at)
    (f : Filled 0 (by_rows kronecker n) (n * n) (take m (drop at w)) y) (all : held_within n at w' ≡ reductions n (held_within n at (back at m w y))) where
  reduced_within : held_within n at w' ≡ tridiagonal n (plain n w)
  unfolding held_within tridiagonal
  reduced_within =
      let inside : at ≤ length w = omega (arith, r.long) in
      let room : n * n ≤ length (take m (drop at w)) = omega (arith, lent_long at m w e, r.long) in
      all
      ∙ ap (reductions n)
      (ap₂ (λ (x q : List Float). reduction_of x q) (back_matrix at m w y e inside f.long n r.apart ∙ s.is)
      (ap (transposed n) (back_behind at m w y e inside f.long) ∙ identity-transposed n f room))

  pub matrix_within : transposed n w' ≡ (tridiagonal n (plain n w)).matrix
  unfolding held_within
  matrix_within = ap (λ (x : Reduction). x.matrix) reduced_within

  pub orthogonal_within : transposed n (drop at w') ≡ (tridiagonal n (plain n w)).orthogonal
  unfolding held_within
  orthogonal_within = ap (λ (x : Reduction). x.orthogonal) reduced_within

  pub kept-within : Kept (at + n * n) (back at m w y) w' → Kept (at + n * n) w w'
  kept-within k = kept_then (back-kept at m w y e (omega (arith, r.long)) f.long (n * n) (filled_kept f)) k
