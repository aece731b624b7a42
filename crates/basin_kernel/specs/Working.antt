-- The working list of a kernel: the two tables of the recursion at its front, then the powers of a node's u. Assumes nothing.
use Rattle.std.specs.Prelude.{◌≡◌, refl, List, ◌++◌, ℕ, zero, suc, ◌+◌, ◌-◌, ◌*◌, ◌≤◌, ◌<◌, length, get_or, take, drop, Float}
use Rattle.std.proofs.Common.{sym, ap, ◌∙◌, zero-add, add-one, arith, length-drop, get_or-take, get_or-drop, length-take-le}
use Rattle.std.proofs.Math.Path.{ap₂}
use Rattle.std.specs.Float.Ieee.{nan}
use Rattle.storage.specs.Elements.{from, from_zero}
use Rattle.storage.specs.Fill.{fill, drop-fill}
use Rattle.storage.specs.Store.{fill_front}
use Rattle.storage.specs.Filled.{Filled, filled, filled_in, filled_before, filled_standing}
use Rattle.storage.specs.Triangle.{idx, row_start, table_size, along, idx-within, row_start_one, row_start_more}
use Rattle.recursion.specs.Recursion.{a_cell, b_cell, rescale, p_cell, p_same}
use Rattle.recursion.specs.Tables.{with_tables}
use Rattle.legendre.specs.Directions.{row_sine, row_cosine, legendre_row}
use Rattle.matrix.specs.Layout.{Kept, kept_then}
use Rattle.basin_kernel.specs.Nodes.{TablesIn}

-- a table has room for the guesses of the roots
pub guesses_fit : (L : ℕ) → L + L < table_size L
guesses_fit zero = omega (arith, row_start_one)
guesses_fit (suc L) =
    let h = guesses_fit L in
    let e = row_start_more (L + 1) in
    let f = ap (λ (n : ℕ). row_start (n + 1)) (add-one L) in
    omega arith

-- a list whose first numbers were lent and came back as x
pub front_lent : {total : ℕ} (x d : List Float) → length x ≡ total → total ≤ length d → Filled 0 (from 0 x nan) total d (x ++ drop total d)
front_lent {total} x d e h =
    filled 0 (from 0 x nan) total d
    (ap (λ (k : ℕ). x ++ drop k d) (sym e) ∙ sym (fill_front x d nan (omega arith)) ∙ ap (λ (k : ℕ). fill 0 (from 0 x nan) k d) e)

-- the part of a list from index s on, as it is lent
abbrev pub rest : ℕ → List Float → List Float
rest s w = take (length w - s) (drop s w)

rest_long : (s : ℕ) (w : List Float) → length (rest s w) ≡ length w - s
rest_long s w = length-take-le (length w - s) (drop s w) (omega (arith, length-drop s w))

rest_at : (s : ℕ) (w : List Float) (k : ℕ) → s + k < length w → get_or (rest s w) k nan ≡ get_or w (s + k) nan
rest_at s w k h = get_or-take (length w - s) (drop s w) k nan (omega arith) ∙ get_or-drop s w k nan

-- what is filled in before index m leaves the rest
pub part_kept : {at k : ℕ} {F : ℕ → Float} {d l : List Float} (m : ℕ) → Filled at F k d l → at + k ≤ m → Kept m d l
part_kept {at} {k} {F} {d} m r h = record { behind = ap (drop m) r.is ∙ drop-fill at F k m d h; long = r.long }

module _ (L : ℕ) {total : ℕ} (w : List Float) {w' : List Float} (size : total ≡ table_size L) (e : w' ≡ with_tables L w) (room : 3 * total ≤ length w) where
  abbrev T : ℕ
  T = table_size L

  abbrev once : List Float
  once = fill 0 (along a_cell) T w

  first : Filled 0 (along a_cell) T w once
  first = filled 0 (along a_cell) T w refl

  second : Filled T (along b_cell) T once w'
  unfolding with_tables
  second = filled T (along b_cell) T once e

  -- the tables, where they are written
  pub tables_in : TablesIn L total w'
  tables_in =
      let l₁ = first.long in
      let l₂ = second.long in
      record {
        size = size;
        long = omega arith;
        of_a =
            λ k h.
            filled_before k nan second (omega arith) ∙ filled_in {j = k} nan first (omega arith) (sym (zero-add k)) (omega arith);
        of_b = λ k h. filled_in {j = k} nan second (omega arith) (ap (λ (i : ℕ). i + k) size) (omega arith);
      }

  pub tables_behind : Kept (3 * total) w w'
  tables_behind = kept_then (part_kept (3 * total) first (omega arith)) (part_kept (3 * total) second (omega arith))

module _ {L total : ℕ} {w : List Float} (tables : TablesIn L total w) where
  -- what is filled in behind the tables leaves them alone
  pub tables_kept : {at k : ℕ} {F : ℕ → Float} {w' : List Float} → Filled at F k w w' → total + total ≤ at → TablesIn L total w'
  tables_kept r h = record {
    size = tables.size;
    long = omega (arith, tables.long, r.long);
    of_a = λ k g. filled_before k nan r (omega arith) ∙ tables.of_a k g;
    of_b = λ k g. filled_before (total + k) nan r (omega arith) ∙ tables.of_b k g;
  }

  -- P at a latitude by the tables, the second lent as the part of the list behind the first
  pub legendre_is : (lats : List Float) (ν : ℕ) {t u : Float} → t ≡ row_sine lats ν → u ≡ row_cosine lats ν → (l m : ℕ) → m ≤ l → l ≤ L
      → p_cell (from 0 w nan) (from 0 (rest total w) nan) t u l m ≡ legendre_row lats ν l m
  unfolding legendre_row
  legendre_is lats ν et eu l m h b =
      ap₂ (λ (x y : Float). p_cell (from 0 w nan) (from 0 (rest total w) nan) x y l m) et eu
      ∙ p_same (from 0 w nan) (from 0 (rest total w) nan) (along a_cell) (along b_cell) (row_sine lats ν) (row_cosine lats ν) l m h
      (λ i g q.
      let k = idx-within i m L (omega arith) (omega arith) in
      let z : idx i m < total = omega (arith, k, tables.size) in (
        from_zero w nan (idx i m) ∙ tables.of_a (idx i m) z,
        from_zero (rest total w) nan (idx i m) ∙ rest_at total w (idx i m) (omega (arith, z, tables.long)) ∙ tables.of_b (idx i m) z,
      ))

-- the powers of u, lent as the part of the list behind both tables
pub powers_there : (total k : ℕ) (u : Float) {d w : List Float} → Filled (total + total) (rescale u) k d w → total + total + k ≤ length d
    → Filled 0 (rescale u) k (rest total (rest total w)) (rest total (rest total w))
powers_there total k u {d} {w} f room =
    let b = rest total w in
    filled_standing nan 0 (rest total b) k
    (λ m h.
    let z : total + (total + m) ≡ total + total + m = omega arith in
    ap (λ (x : ℕ). get_or (rest total b) x nan) (zero-add m)
    ∙ rest_at total b m (omega (arith, rest_long total w, f.long))
    ∙ rest_at total w (total + m) (omega (arith, f.long))
    ∙ filled_in {j = m} nan f h z (omega arith))
