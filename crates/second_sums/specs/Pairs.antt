-- The last two rows of the recursion as one list of pairs: the number of order m in the last row stands at index 2m, the one in the row before it at
-- index 2m + 1. Assumes nothing.
use Rattle.std.specs.Prelude.{◌≡◌, cond, List, ◌⊎◌, ℕ, zero, suc, ◌+◌, ◌-◌, ◌*◌, ◌≤◌, ◌<◌, ltb, length, set, Float}
use Rattle.std.proofs.Math.Path.{sym, ap}
use Rattle.std.proofs.Common.{◌∙◌, inl, inr, eq-or-lt_of_le, zero-add}
use native.Mathlib.Omega.{arith}
use Rattle.std.proofs.Math.ListN.{get_or}
use Rattle.std.specs.Float.Ieee.{nan}
use borrow.Author.Tests.{lt-ltb, le-ltb}
use Rattle.number.specs.Float64.{◌⊗◌, zero64}
use Rattle.storage.specs.Filled.{Filled, filled_more, filled_to, filled_in}
use Rattle.storage.specs.Rectangle.{by_rows, by_row}
use Rattle.storage.specs.Triangle.{idx}
use Rattle.recursion.specs.Recursion.{step, pmm, rescale, q_cell, p_cell, q_sectoral, q_second, q_step}

-- The pair of order m with row n: its number in row n, then the one in the row before. The second number of a column has none but its sectoral
-- number before it, and the row's last number is pmm.
unfoldable pub next_pair : (n at : ℕ) (t pmm : Float) (a b rows : List Float) → ℕ → ℕ → Float
next_pair n at t pmm a b rows m zero =
    let am = get_or a (at + m) nan in
    let bm = get_or b (at + m) nan in
    let newer = get_or rows (m + m) nan in
    cond (ltb (m + 1) n) (step am bm t (get_or rows (m + m + 1) nan) newer) (cond (ltb m n) (step am bm t zero64 newer) pmm)
next_pair n at t pmm a b rows m (suc j) = get_or rows (m + m) nan

-- row n of P: row n of the recursion times the powers of u
unfoldable pub scaled_pair : List Float → List Float → ℕ → Float
scaled_pair rows r m = get_or rows (m + m) nan ⊗ get_or r m nan

-- ---- the pairs of a row, one after the other
module _ (n at : ℕ) (t e : Float) (a b rows : List Float) where
  abbrev pairs : ℕ → Float
  pairs = by_rows (next_pair n at t e a b rows) 2

  first_at : (m : ℕ) → pairs (m * 2) ≡ next_pair n at t e a b rows m 0
  first_at m =
      let z : m * 2 ≡ m * 2 + 0 = omega arith in
      ap pairs z ∙ by_row (next_pair n at t e a b rows) 2 m 0 (omega arith)

  second_at : (m : ℕ) → pairs (m * 2 + 1) ≡ next_pair n at t e a b rows m 1
  second_at m = by_row (next_pair n at t e a b rows) 2 m 1 (omega arith)

  -- a pair stored
  pub pair_more : (m : ℕ) {i j : ℕ} {x y : Float} {l : List Float} → Filled 0 pairs (m * 2) rows l → i ≡ m + m → j ≡ m + m + 1
      → x ≡ next_pair n at t e a b rows m 0 → y ≡ get_or rows (m + m) nan → Filled 0 pairs ((m + 1) * 2) rows (set (set l i x) j y)
  unfolding next_pair
  pair_more m {i} {j} r ei ej ex ey =
      let one = filled_more {i = i} r (omega arith) (ex ∙ sym (first_at m)) in
      filled_to (filled_more {i = j} one (omega arith) (ey ∙ sym (second_at m))) (omega arith)

  pub pair_inner : (m : ℕ) → m + 1 < n
      → step (get_or a (at + m) nan) (get_or b (at + m) nan) t (get_or rows (m + m + 1) nan) (get_or rows (m + m) nan) ≡ next_pair n at t e a b rows m 0
  unfolding next_pair
  pair_inner m h = simp (lt-ltb (m + 1) n h)

  pub pair_second : (m : ℕ) → m + 1 ≡ n
      → step (get_or a (at + m) nan) (get_or b (at + m) nan) t zero64 (get_or rows (m + m) nan) ≡ next_pair n at t e a b rows m 0
  unfolding next_pair
  pair_second m h = simp (le-ltb (m + 1) n (omega arith), lt-ltb m n (omega arith))

  pair_sectoral : e ≡ next_pair n at t e a b rows n 0
  unfolding next_pair
  pair_sectoral = simp (le-ltb (n + 1) n (omega arith), le-ltb n n (omega arith))

  -- the sectoral number stored behind the pairs
  pub pairs_last : {i : ℕ} {l : List Float} → Filled 0 pairs (n * 2) rows l → i ≡ n + n → Filled 0 pairs (n + n + 1) rows (set l i e)
  pairs_last {i} r ei = filled_to (filled_more {i = i} r (omega arith) (pair_sectoral ∙ sym (first_at n))) (omega arith)

-- ---- the rows n - 1 and n - 2 stand in the pairs: what row n is worked out from
pub record LastPairs (a b : ℕ → Float) (t : Float) (n : ℕ) (rows : List Float) : Type 0 where
  pub one : (m : ℕ) → m < n → get_or rows (m + m) nan ≡ q_cell a b t (n - 1) m
  pub two : (m : ℕ) → m + 1 < n → get_or rows (m + m + 1) nan ≡ q_cell a b t (n - 2) m

-- before row 0 there is none
pub last_pairs_none : {a b : ℕ → Float} {t : Float} {rows : List Float} → LastPairs a b t 0 rows
last_pairs_none = record { one = λ m h. absurd (omega arith); two = λ m h. absurd (omega arith) }

module _ {a b : ℕ → Float} {t : Float} {n : ℕ} {rows : List Float} (last : LastPairs a b t n rows) (at : ℕ) {e : Float} (la lb : List Float)
    (av : (m : ℕ) → m < n → get_or la (at + m) nan ≡ a (idx n m)) (bv : (m : ℕ) → m < n → get_or lb (at + m) nan ≡ b (idx n m)) (d : e ≡ pmm n) where
  next_pair_is : (m : ℕ) → m ≤ n → next_pair n at t e la lb rows m 0 ≡ q_cell a b t n m
  next_pair_is m l = pick (eq-or-lt_of_le l)
    where
      below : m < n → (m + 1 ≡ n) ⊎ (m + 1 < n) → next_pair n at t e la lb rows m 0 ≡ q_cell a b t n m
      below g (inl x) =
          let z : m ≡ n - 1 = omega arith in
          let q1 = last.one m g in
          sym (pair_second n at t e la lb rows m x) ∙ cc (av m g, bv m g, q1, q_second a b t n (omega arith), z)
      below g (inr x) =
          let q1 = last.one m g in
          let q2 = last.two m x in
          sym (pair_inner n at t e la lb rows m x) ∙ cc (av m g, bv m g, q1, q2, q_step a b t n m (omega arith))

      pick : (m ≡ n) ⊎ (m < n) → next_pair n at t e la lb rows m 0 ≡ q_cell a b t n m
      pick (inl x) =
          ap (λ (i : ℕ). next_pair n at t e la lb rows i 0) x ∙ sym (pair_sectoral n at t e la lb rows) ∙ d ∙ q_sectoral a b t n ∙ ap (q_cell a b t n) (sym x)
      pick (inr g) = below g (eq-or-lt_of_le (let y : m + 1 ≤ n = omega arith in y))

  -- with row n written
  pub last_pairs_more : {l : List Float} → n + n < length rows → Filled 0 (by_rows (next_pair n at t e la lb rows) 2) (n + n + 1) rows l
      → LastPairs a b t (n + 1) l
  unfolding next_pair
  last_pairs_more {l} room r =
      let e1 : n + 1 - 1 ≡ n = omega arith in
      let e2 : n + 1 - 2 ≡ n - 1 = omega arith in
      record {
        one =
            λ m h.
            let z : m + m ≡ m * 2 = omega arith in
            ap (λ (i : ℕ). get_or l i nan) z
            ∙ filled_in {j = m * 2} nan r (omega arith) (sym (zero-add (m * 2))) (omega arith)
            ∙ first_at n at t e la lb rows m
            ∙ next_pair_is m (omega arith)
            ∙ ap (λ (i : ℕ). q_cell a b t i m) (sym e1);
        two =
            λ m h.
            let z : m + m + 1 ≡ m * 2 + 1 = omega arith in
            ap (λ (i : ℕ). get_or l i nan) z
            ∙ filled_in {j = m * 2 + 1} nan r (omega arith) (sym (zero-add (m * 2 + 1))) (omega arith)
            ∙ second_at n at t e la lb rows m
            ∙ last.one m (omega arith)
            ∙ ap (λ (i : ℕ). q_cell a b t i m) (sym e2);
      }

-- row n of P, from row n as the last of the pairs and the powers of u
pub scaled_pair_is : {a b : ℕ → Float} {t : Float} (u : Float) {n k : ℕ} {rows r : List Float} → LastPairs a b t (n + 1) rows → Filled 0 (rescale u) k r r
    → n < k → n < length r → (m : ℕ) → m ≤ n → scaled_pair rows r m ≡ p_cell a b t u n m
unfolding scaled_pair p_cell
scaled_pair_is {a} {b} {t} u {n} last powers h hr m l =
    let e : n + 1 - 1 ≡ n = omega arith in
    let x = last.one m (omega arith) in
    let y = filled_in {j = m} nan powers (omega arith) (sym (zero-add m)) (omega arith) in
    cc
