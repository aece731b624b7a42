-- The tables that the points of a call share, at the front of the working list: the two of the recursion, then the weights of the derivative.
-- Assumes nothing.
use Rattle.std.specs.Prelude.{◌≡◌, List, ℕ, ◌+◌, ◌≤◌, ◌<◌, get_or, take, drop, Float}
use Rattle.std.proofs.Math.Path.{refl, ap}
use Rattle.std.proofs.Common.{sym, ◌∙◌, zero-add, arith}
use Rattle.std.proofs.Math.ListN.{length}
use Rattle.std.specs.Float.Ieee.{nan}
use Rattle.storage.specs.Fill.{fill, length-fill, drop-fill}
use Rattle.storage.specs.Filled.{Filled, filled, filled_in, filled_before}
use Rattle.storage.specs.Triangle.{table_size, along}
use Rattle.recursion.specs.Recursion.{a_cell, b_cell}
use Rattle.recursion.specs.Tables.{with_tables, second_table}
use Rattle.derivative.specs.Derivative.{weight_cell}

-- a, b and w hold the recursion coefficients and the weights of the derivative up to degree N
pub record Tabled (N : ℕ) (a b w : List Float) : Type 0 where
  pub of_a : (k : ℕ) → k < table_size N → get_or a k nan ≡ along a_cell k
  pub of_b : (k : ℕ) → k < table_size N → get_or b k nan ≡ along b_cell k
  pub of_w : (k : ℕ) → k < table_size N → get_or w k nan ≡ along weight_cell k

-- l holds them one after the other at its front
pub record TablesFirst (N : ℕ) (l : List Float) : Type 0 where
  pub of_a : (k : ℕ) → k < table_size N → get_or l k nan ≡ along a_cell k
  pub of_b : (k : ℕ) → k < table_size N → get_or l (table_size N + k) nan ≡ along b_cell k
  pub of_w : (k : ℕ) → k < table_size N → get_or l (table_size N + (table_size N + k)) nan ≡ along weight_cell k

-- w with the three tables at its front
unfoldable pub with_weights : ℕ → List Float → List Float
with_weights N w = fill (table_size N + table_size N) (along weight_cell) (table_size N) (with_tables N w)

pub weights_filled : (w : List Float) {l l' : List Float} (N at : ℕ) → at ≡ table_size N + table_size N → l ≡ with_tables N w
    → Filled at (along weight_cell) (table_size N) l l' → l' ≡ with_weights N w
unfolding with_weights
weights_filled w {l} N at e t r =
    let T = table_size N in
    r.is ∙ ap (λ (i : ℕ). fill i (along weight_cell) T l) e ∙ ap (fill (T + T) (along weight_cell) T) t

module _ (N : ℕ) (w : List Float) {w' : List Float} (e : w' ≡ with_weights N w) where
  pub weights_long : length w' ≡ length w
  unfolding with_weights with_tables
  weights_long =
      let T = table_size N in
      ap length e
      ∙ length-fill (T + T) (along weight_cell) T (fill T (along b_cell) T (fill 0 (along a_cell) T w))
      ∙ length-fill T (along b_cell) T (fill 0 (along a_cell) T w)
      ∙ length-fill 0 (along a_cell) T w

  -- what stands behind the tables is left alone
  pub weights_rest : (i : ℕ) → table_size N + table_size N + table_size N ≤ i → drop i w' ≡ drop i w
  unfolding with_weights with_tables
  weights_rest i h =
      let T = table_size N in
      ap (drop i) e
      ∙ drop-fill (T + T) (along weight_cell) T i (fill T (along b_cell) T (fill 0 (along a_cell) T w)) (omega arith)
      ∙ drop-fill T (along b_cell) T i (fill 0 (along a_cell) T w) (omega arith)
      ∙ drop-fill 0 (along a_cell) T i w (omega arith)

  pub weights_first : table_size N + table_size N + table_size N ≤ length w → TablesFirst N w'
  unfolding with_weights with_tables
  weights_first room =
      let T = table_size N in
      let w₁ = fill 0 (along a_cell) T w in
      let w₂ = fill T (along b_cell) T w₁ in
      let one = filled 0 (along a_cell) T w {l = w₁} refl in
      let two = filled T (along b_cell) T w₁ {l = w₂} refl in
      let three = filled (T + T) (along weight_cell) T w₂ e in
      let l₁ = one.long in
      let l₂ = two.long in
      record {
        of_a =
            λ k h.
            filled_before k nan three (omega arith) ∙ filled_before k nan two h ∙ filled_in nan one h (sym (zero-add k)) (omega arith);
        of_b = λ k h. filled_before (T + k) nan three (omega arith) ∙ filled_in nan two h refl (omega arith);
        of_w = λ k h. filled_in {j = k} nan three h (omega arith) (omega arith);
      }

module _ {N : ℕ} {l : List Float} (first : TablesFirst N l) where
  -- what is filled in behind the tables leaves them alone
  pub first_kept : {at k : ℕ} {F : ℕ → Float} {l' : List Float} → Filled at F k l l' → table_size N + table_size N + table_size N ≤ at → TablesFirst N l'
  first_kept r h =
      let T = table_size N in
      record {
        of_a = λ k g. filled_before k nan r (omega arith) ∙ first.of_a k g;
        of_b = λ k g. filled_before (T + k) nan r (omega arith) ∙ first.of_b k g;
        of_w = λ k g. filled_before (T + (T + k)) nan r (omega arith) ∙ first.of_w k g;
      }

  -- the three tables, the second and the third lent as the part of the list behind the one before
  pub tabled : (total i j : ℕ) → total ≡ table_size N → total + total ≤ i → total ≤ j
      → Tabled N l (take i (drop total l)) (take j (drop total (take i (drop total l))))
  tabled total i j e hi hj =
      let T = table_size N in
      let b = take i (drop total l) in
      record {
        of_a = first.of_a;
        of_b = λ k h. second_table N total i l e k (omega arith) ∙ first.of_b k h;
        of_w = λ k h. second_table N total j b e k (omega arith) ∙ second_table N total i l e (T + k) (omega arith) ∙ first.of_w k h;
      }
