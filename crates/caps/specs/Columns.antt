-- One column of the Legendre functions, degree by degree. Assumes nothing.
use Rattle.std.specs.Prelude.{◌≡◌, List, get_or, Float}
use Rattle.std.proofs.Math.Path.{refl}
use Rattle.std.proofs.Common.{sym, ap, ◌∙◌, arith}
use Prim.Native.Nat.{ℕ, zero, suc, ◌+◌, ◌-◌, ◌≤◌, ◌<◌}
use Rattle.std.proofs.Math.Numerals.{add-one}
use Rattle.std.specs.Float.{nan}
use Rattle.number.specs.Float64.{◌⊖◌, ◌⊗◌, zero64}
use Rattle.storage.specs.Elements.{from, from_zero}
use Rattle.storage.specs.Triangle.{row_start, idx, table_size, along, row_start_more, row_start_monotone, idx-within}
use Rattle.legendre.specs.Directions.{row_sine, row_cosine, legendre_row}
use Rattle.recursion.specs.Recursion.{a_cell, b_cell, pmm, rescale, step, q, q_cell, p_cell, p_same}

from_at : (w : List Float) (T : ℕ) {at at' : ℕ} → at ≡ at' → get_or w (T + at) nan ≡ from T w nan at'
unfolding from
from_at w T e = ap (λ (j : ℕ). get_or w (T + j) nan) e

-- P(m + i, m) by the tables a and b of the recursion, where x is u^m / 1e-280
unfoldable pub column_cell : (ℕ → Float) → (ℕ → Float) → Float → Float → ℕ → ℕ → Float
column_cell a b t x m i = q a b t m i ⊗ x

module _ (a b : ℕ → Float) (t : Float) (m : ℕ) where
  -- the number before the one at i, and 0 before the first
  unfoldable pub before : ℕ → Float
  before zero = zero64
  before (suc i) = q a b t m i

  pub column_first : pmm m ≡ q a b t m 0
  unfolding q
  column_first = refl

  pub before_first : zero64 ≡ before 0
  unfolding before
  before_first = refl

  pub before_next : (i : ℕ) → q a b t m i ≡ before (i + 1)
  unfolding before
  before_next i = rw add-one refl

  pub column_next : (i : ℕ) → step (a (idx (m + (i + 1)) m)) (b (idx (m + (i + 1)) m)) t (before i) (q a b t m i) ≡ q a b t m (i + 1)
  unfolding before q
  column_next zero = refl
  column_next (suc i) = rw add-one refl

-- with both tables in one list
pub column_more : (w : List Float) (T : ℕ) (t : Float) (m i : ℕ) {at : ℕ} {q1 q2 : Float} → at ≡ idx (m + (i + 1)) m → q1 ≡ q (from 0 w nan) (from T w nan) t m i
    → q2 ≡ before (from 0 w nan) (from T w nan) t m i → step (get_or w at nan) (get_or w (T + at) nan) t q2 q1 ≡ q (from 0 w nan) (from T w nan) t m (i + 1)
column_more w T t m i {at} e g h =
    let A = from 0 w nan in
    let B = from T w nan in
    let a : get_or w at nan ≡ A (idx (m + (i + 1)) m) = ap (λ (j : ℕ). get_or w j nan) e ∙ sym (from_zero w nan (idx (m + (i + 1)) m)) in
    let b : get_or w (T + at) nan ≡ B (idx (m + (i + 1)) m) = from_at w T e in
    rw (a, b, g, h) (column_next A B t m i)

-- the tables of the recursion up to degree N stand at the front of w, T numbers each
pub record TablesIn (N T : ℕ) (w : List Float) : Type 0 where
  pub size : T ≡ table_size N
  pub of_a : (i : ℕ) → i < T → get_or w i nan ≡ along a_cell i
  pub of_b : (i : ℕ) → i < T → get_or w (T + i) nan ≡ along b_cell i

-- by them a column is that of the node's latitude
pub column_is : {N T : ℕ} {w : List Float} → TablesIn N T w → (lats : List Float) (ν m i : ℕ) {t x : Float} → t ≡ row_sine lats ν → x ≡ rescale (row_cosine lats ν) m
    → m + i ≤ N → column_cell (from 0 w nan) (from T w nan) t x m i ≡ legendre_row lats ν (m + i) m
unfolding column_cell legendre_row p_cell q_cell from
column_is {N} {T} {w} tables lats ν m i {t} {x} et ex h =
    let e : m + i - m ≡ i = omega arith in
    let u = row_cosine lats ν in
    let within : (n : ℕ) → m < n → n ≤ m + i → idx n m < T = λ n l g. omega (arith, tables.size, idx-within n m N (omega arith) (omega arith)) in
    let same =
    p_same (from 0 w nan) (from T w nan) (along a_cell) (along b_cell) t u (m + i) m (omega arith)
    (λ n l g. (from_zero w nan (idx n m) ∙ tables.of_a (idx n m) (within n l g), tables.of_b (idx n m) (within n l g))) in
    let s : q (from 0 w nan) (from T w nan) t m (m + i - m) ⊗ rescale u m ≡ q (along a_cell) (along b_cell) t m (m + i - m) ⊗ rescale u m = same in
    rw (← et, ex) (ap (λ (j : ℕ). q (from 0 w nan) (from T w nan) t m j ⊗ rescale u m) (sym e) ∙ s)

-- where the next number of a column stands in the tables
pub record Next (m k i at : ℕ) : Type 0 where
  pub is : at + m + (i + 1) ≡ idx (m + (i + 1)) m
  pub inside : at + m + (i + 1) ≤ row_start (m + k) + m

pub next_at : (m k i : ℕ) {at : ℕ} → at ≡ idx (m + i) m → i < k → Next m k i at
next_at m k i e h =
    let a : m + i + 1 ≡ m + (i + 1) = omega arith in
    let one = row_start_more (m + i) in
    let up = row_start_monotone (m + (i + 1)) (m + k) (omega arith) in
    let same = ap row_start a in
    record { is = omega arith; inside = omega arith }
