-- Document 01: the stored Legendre entries are the numbers that `compute` answers for a row's pair with the tables of `new`. What the two calls leave,
-- whatever stood in their lists, is `legendre_row`, by which grids, analyses and caps are stated. Assumes nothing.
use Rattle.std.specs.Prelude.{◌≡◌, refl, List, ℕ, ◌≤◌, length, get_or, Float}
use Rattle.std.proofs.Common.{sym, ◌∙◌, zero-add, arith}
use Rattle.std.specs.Float.Ieee.{nan}
use Rattle.storage.specs.Elements.{from, from_zero}
use Rattle.storage.specs.Fill.{fill}
use Rattle.storage.specs.Filled.{filled, filled_in}
use Rattle.storage.specs.Triangle.{idx, table_size, along, rows_at, idx-within}
use Rattle.recursion.specs.Recursion.{a_cell, b_cell, p_cell, p_same}
use Rattle.legendre.specs.Directions.{row_sine, row_cosine, legendre_row}
use Rattle.legendre.specs.Grown.{made}

module _ (N : ℕ) (a b p : List Float) (ra : table_size N ≤ length a) (rb : table_size N ≤ length b) (rp : table_size N ≤ length p) where
  -- what `new` leaves in a and b
  abbrev pub new_a : List Float
  new_a = made a_cell N a

  abbrev pub new_b : List Float
  new_b = made b_cell N b

  -- what `compute` leaves in p at the pair t, u, from these
  abbrev pub computed : Float → Float → List Float
  computed t u = fill 0 (along (p_cell (from 0 new_a nan) (from 0 new_b nan) t u)) (table_size N) p

  a_is : (n m : ℕ) → m ≤ n → n ≤ N → from 0 new_a nan (idx n m) ≡ along a_cell (idx n m)
  a_is n m h l =
      let w = idx-within n m N h l in
      from_zero new_a nan (idx n m) ∙ filled_in nan (filled 0 (along a_cell) (table_size N) a refl) w (sym (zero-add (idx n m))) (omega (arith, w))

  b_is : (n m : ℕ) → m ≤ n → n ≤ N → from 0 new_b nan (idx n m) ≡ along b_cell (idx n m)
  b_is n m h l =
      let w = idx-within n m N h l in
      from_zero new_b nan (idx n m) ∙ filled_in nan (filled 0 (along b_cell) (table_size N) b refl) w (sym (zero-add (idx n m))) (omega (arith, w))

  pub compute_after_new : (lats : List Float) (i n m : ℕ) → m ≤ n → n ≤ N
      → get_or (computed (row_sine lats i) (row_cosine lats i)) (idx n m) nan ≡ legendre_row lats i n m
  unfolding legendre_row
  compute_after_new lats i n m h l =
      let P = p_cell (from 0 new_a nan) (from 0 new_b nan) (row_sine lats i) (row_cosine lats i) in
      let w = idx-within n m N h l in
      rows_at P n m nan (filled 0 (along P) (table_size N) p refl) h (sym (zero-add (idx n m))) w (omega (arith, w))
      ∙ p_same (from 0 new_a nan) (from 0 new_b nan) (along a_cell) (along b_cell) (row_sine lats i) (row_cosine lats i) n m h
      (λ j g q. (a_is j m (omega arith) (omega arith), b_is j m (omega arith) (omega arith)))
