-- The two tables of the recursion, one after the other at the front of a working list. Assumes nothing.
use Rattle.std.specs.Prelude.{◌≡◌, List, ℕ, ◌+◌, ◌<◌, get_or, take, drop, Float}
use Rattle.std.proofs.Common.{ap, ◌∙◌, get_or-take, get_or-drop}
use Rattle.std.specs.Float.{nan}
use Rattle.storage.specs.Fill.{fill}
use Rattle.storage.specs.Filled.{Filled}
use Rattle.storage.specs.Triangle.{table_size, along}
use Rattle.recursion.specs.Recursion.{a_cell, b_cell}

-- w with the two tables of the recursion up to degree N at its front
unfoldable pub with_tables : ℕ → List Float → List Float
with_tables N w = fill (table_size N) (along b_cell) (table_size N) (fill 0 (along a_cell) (table_size N) w)

pub tables_filled : {w l l' : List Float} (N total : ℕ) → total ≡ table_size N → Filled 0 (along a_cell) (table_size N) w l
    → Filled total (along b_cell) (table_size N) l l' → l' ≡ with_tables N w
unfolding with_tables
tables_filled {w} {l} N total e a b =
    let T = table_size N in
    b.is ∙ ap (λ (i : ℕ). fill i (along b_cell) T l) e ∙ ap (fill T (along b_cell) T) a.is

-- the second table, lent as the part of the list behind the first
pub second_table : (N total n : ℕ) (w : List Float) → total ≡ table_size N → (k : ℕ) → k < n
    → get_or (take n (drop total w)) k nan ≡ get_or w (table_size N + k) nan
second_table N total n w e k h = get_or-take n (drop total w) k nan h ∙ get_or-drop total w k nan ∙ ap (λ (i : ℕ). get_or w (i + k) nan) e
