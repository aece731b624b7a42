-- Rows of the recursion in lists: row n of q from the two rows before it, and row n of P from that. Assumes nothing.
use Rattle.std.specs.Prelude.{◌≡◌, refl, cond, List, ◌⊎◌, ℕ, ◌+◌, ◌-◌, ◌≤◌, ◌<◌, ltb, length, get_or, Float}
use Rattle.std.proofs.Common.{sym, ap, ◌∙◌, inl, inr, eq-or-lt_of_le, zero-add, arith}
use Rattle.std.specs.Float.{nan}
use borrow.Author.Tests.{lt-ltb, le-ltb}
use Rattle.number.specs.Float64.{◌⊗◌, zero64}
use Rattle.number.specs.Root.{root_of}
use Rattle.storage.specs.Elements.{from, from_zero}
use Rattle.storage.specs.Filled.{Filled, filled_none, filled_same, filled_self, filled_in, filled_to}
use Rattle.storage.specs.Triangle.{row_start, idx, along, row_start_zero, row_start_more, rows_more}
use Rattle.recursion.specs.Recursion.{scale64, step, pmm, rescale, sectoral_ratio, q_cell, p_cell, pmm_zero, pmm_more, q_sectoral, q_second, q_step}

-- Row n of q from the row before it, newer, and the one before that, older: the coefficients of the row start at index at of a and of b,
-- the second number of a column has none but its sectoral number before it, and the row's last number is pmm.
unfoldable pub next_row : (n at : ℕ) (t pmm : Float) (a b newer older : List Float) → ℕ → Float
next_row n at t pmm a b newer older m =
    let am = get_or a (at + m) nan in
    let bm = get_or b (at + m) nan in
    let q1 = get_or newer m nan in
    cond (ltb (m + 1) n) (step am bm t (get_or older m nan) q1) (cond (ltb m n) (step am bm t zero64 q1) pmm)

-- row n of P: row n of q times the powers of u
unfoldable pub scaled_row : List Float → List Float → ℕ → Float
scaled_row q r m = get_or q m nan ⊗ get_or r m nan

module _ (n at : ℕ) (t e : Float) (a b newer older : List Float) where
  pub row-inner : (m : ℕ) → m + 1 < n
      → step (get_or a (at + m) nan) (get_or b (at + m) nan) t (get_or older m nan) (get_or newer m nan) ≡ next_row n at t e a b newer older m
  unfolding next_row
  row-inner m h = simp (lt-ltb (m + 1) n h)

  pub row_second : (m : ℕ) → m + 1 ≡ n → step (get_or a (at + m) nan) (get_or b (at + m) nan) t zero64 (get_or newer m nan) ≡ next_row n at t e a b newer older m
  unfolding next_row
  row_second m h = simp (le-ltb (m + 1) n (omega arith), lt-ltb m n (omega arith))

  pub row_sectoral : e ≡ next_row n at t e a b newer older n
  unfolding next_row
  row_sectoral = simp (le-ltb (n + 1) n (omega arith), le-ltb n n (omega arith))

-- the lists newer and older start with the rows n - 1 and n - 2 of q: what row n is worked out from
pub record LastRows (a b : ℕ → Float) (t : Float) (n : ℕ) (newer older : List Float) : Type 0 where
  pub one : Filled 0 (q_cell a b t (n - 1)) n newer newer
  pub two : Filled 0 (q_cell a b t (n - 2)) (n - 1) older older

-- before row 0 there is none
pub last_rows_none : {a b : ℕ → Float} {t : Float} {newer older : List Float} → LastRows a b t 0 newer older
last_rows_none = record { one = filled_none; two = filled_to filled_none (omega arith) }

module _ {a b : ℕ → Float} {t : Float} {n : ℕ} {newer older : List Float} (last : LastRows a b t n newer older) where
  module _ (at : ℕ) {e : Float} (la lb : List Float) (av : (m : ℕ) → m < n → get_or la (at + m) nan ≡ a (idx n m))
      (bv : (m : ℕ) → m < n → get_or lb (at + m) nan ≡ b (idx n m)) (d : e ≡ pmm n) (h1 : n ≤ length newer) (h2 : n ≤ length older) where
    next_row_is : (m : ℕ) → m ≤ n → next_row n at t e la lb newer older m ≡ q_cell a b t n m
    next_row_is m l = pick (eq-or-lt_of_le l)
      where
        below : m < n → (m + 1 ≡ n) ⊎ (m + 1 < n) → next_row n at t e la lb newer older m ≡ q_cell a b t n m
        below g (inl x) =
            let z : m ≡ n - 1 = omega arith in
            let q1 = filled_in nan last.one g (sym (zero-add m)) (omega arith) in
            sym (row_second n at t e la lb newer older m x) ∙ cc (av m g, bv m g, q1, q_second a b t n (omega arith), z)
        below g (inr x) =
            let q1 = filled_in nan last.one g (sym (zero-add m)) (omega arith) in
            let q2 = filled_in {j = m} nan last.two (omega arith) (sym (zero-add m)) (omega arith) in
            sym (row-inner n at t e la lb newer older m x) ∙ cc (av m g, bv m g, q1, q2, q_step a b t n m (omega arith))

        pick : (m ≡ n) ⊎ (m < n) → next_row n at t e la lb newer older m ≡ q_cell a b t n m
        pick (inl x) =
            ap (next_row n at t e la lb newer older) x ∙ sym (row_sectoral n at t e la lb newer older) ∙ d ∙ q_sectoral a b t n ∙ ap (q_cell a b t n) (sym x)
        pick (inr g) = below g (eq-or-lt_of_le (let y : m + 1 ≤ n = omega arith in y))

    -- row n written over the older of the two: the lists change their parts
    pub last_rows_more : {l : List Float} → Filled 0 (next_row n at t e la lb newer older) (n + 1) older l → LastRows a b t (n + 1) l newer
    last_rows_more r =
        let e1 : n + 1 - 1 ≡ n = omega arith in
        let e2 : n + 1 - 2 ≡ n - 1 = omega arith in
        record {
          one = rw e1 (filled_self (filled_same (q_cell a b t n) r (λ m h. next_row_is m (omega arith))));
          two = rw (e1, e2) last.one;
        }

-- row n is the next one: its coefficients start at index at, and the lists newer and older start with the two rows of q before it
pub record UpToRow (a b : ℕ → Float) (t : Float) (n at : ℕ) (newer older : List Float) : Type 0 where
  pub start : at ≡ row_start n
  pub last : LastRows a b t n newer older

pub up_to_none : {a b : ℕ → Float} {t : Float} {newer older : List Float} → UpToRow a b t 0 0 newer older
up_to_none = record { start = sym row_start_zero; last = last_rows_none }

-- with row n worked out, from lists that hold its coefficients
pub up_to_more : {a b : ℕ → Float} {t : Float} {n at n' at' : ℕ} {e : Float} {newer older l : List Float} → UpToRow a b t n at newer older
    → (la lb : List Float) → ((m : ℕ) → m < n → get_or la (idx n m) nan ≡ a (idx n m)) → ((m : ℕ) → m < n → get_or lb (idx n m) nan ≡ b (idx n m))
    → e ≡ pmm n → n ≤ length newer → n ≤ length older → Filled 0 (next_row n at t e la lb newer older) (n + 1) older l
    → n' ≡ n + 1 → at' ≡ at + n + 1 → UpToRow a b t n' at' l newer
up_to_more {n = n} {at} below la lb av bv d h1 h2 q en ea =
    let place : (m : ℕ) → at + m ≡ idx n m = λ m. ap (λ (i : ℕ). i + m) below.start in
    rw en record {
      start = omega (arith, row_start_more n, below.start);
      last =
          last_rows_more below.last at la lb (λ m g. ap (λ (i : ℕ). get_or la i nan) (place m) ∙ av m g)
          (λ m g. ap (λ (i : ℕ). get_or lb i nan) (place m) ∙ bv m g) d h1 h2 q;
    }

-- row n of P, from row n of q as the newer of two rows and the powers of u
pub scaled_row_is : {a b : ℕ → Float} {t : Float} (u : Float) {n k : ℕ} {q other r : List Float} → LastRows a b t (n + 1) q other → Filled 0 (rescale u) k r r
    → n < k → n < length q → n < length r → (m : ℕ) → m ≤ n → scaled_row q r m ≡ p_cell a b t u n m
unfolding scaled_row p_cell
scaled_row_is {a} {b} {t} u {n} last powers h hq hr m l =
    let e : n + 1 - 1 ≡ n = omega arith in
    let x = filled_in {j = m} nan last.one (omega arith) (sym (zero-add m)) (omega arith) in
    let y = filled_in {j = m} nan powers (omega arith) (sym (zero-add m)) (omega arith) in
    cc

-- ---- a table of P that is written row by row
-- the rows of P below n are written from index 0 of d on, and the sectoral number of the next is e
pub record RowsBelow (n at : ℕ) (e t u : Float) (a b newer older d p : List Float) : Type 0 where
  pub rows : UpToRow (from 0 a nan) (from 0 b nan) t n at newer older
  pub sectoral : e ≡ pmm n
  pub table : Filled 0 (along (p_cell (from 0 a nan) (from 0 b nan) t u)) (row_start n) d p

pub rows_below_none : {t u : Float} {a b newer older d : List Float} → RowsBelow 0 0 scale64 t u a b newer older d d
rows_below_none = record { rows = up_to_none; sectoral = pmm_zero; table = filled_to filled_none (sym row_start_zero) }

-- with row n written
module _ {n at k : ℕ} {e t u : Float} {a b newer older d p r l p' : List Float} where
  pub rows_below_more : {n' at' : ℕ} {e' : Float} → RowsBelow n at e t u a b newer older d p → Filled 0 (rescale u) k r r
      → Filled 0 (next_row n at t e a b newer older) (n + 1) older l → Filled at (scaled_row l r) (n + 1) p p'
      → n ≤ length newer → n < length older → n < length r → n < k → n' ≡ n + 1 → at' ≡ at + n + 1 → e' ≡ e ⊗ root_of (sectoral_ratio (n + 1))
      → RowsBelow n' at' e' t u a b l newer d p'
  rows_below_more {n'} {at'} {e'} below powers q pr h1 h2 h3 h4 en ea ee =
      let rows =
      up_to_more below.rows a b (λ m g. sym (from_zero a nan (idx n m))) (λ m g. sym (from_zero b nan (idx n m)))
      below.sectoral h1 (omega arith) q refl refl in
      let row = filled_same (p_cell (from 0 a nan) (from 0 b nan) t u n) pr (λ m g. scaled_row_is u rows.last powers h4 (omega arith) h3 m (omega arith)) in
      let more = pmm_more n in
      let sectoral = below.sectoral in
      rw (en, ea) record {
        rows = rows;
        sectoral = cc;
        table = rows_more (p_cell (from 0 a nan) (from 0 b nan) t u) n below.table row refl (below.rows.start ∙ sym (zero-add (row_start n))) refl;
      }
