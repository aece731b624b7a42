-- An average over a drawn basin is covered by demand 3, under its premise on sizes: what `basin_average` promises of the lists that `basin_kernel` hands
-- back (`WithinMargin`), it promises of the kernel's definition. The premise, that the kernel's first number is at most 1 in size, is a condition: that
-- number can be above 1, by too few nodes, by rounding for nearly the whole sphere, or by the numbers that are lent. Assumes nothing.
use Rattle.std.specs.Prelude.{◌≡◌, List, ℕ, ◌≤◌, min, length, Float, Result}
use Rattle.std.proofs.Common.{sym, subst, arith}
use Rattle.std.specs.Float.{nan}
use Rattle.storage.specs.Fill.{fill}
use Rattle.storage.specs.Triangle.{cells, along, table_size}
use Rattle.coefficients.specs.declared.Head.{Head}
use Rattle.functional.specs.Factor.{factor_of}
use Rattle.functional.specs.declared.Functional.{Functional}
use Rattle.rounding.specs.Margins.{AtMostOne}
use Rattle.slepian.specs.Average.{WithinMargin}
use Rattle.basin_kernel.specs.Kernel.{kernel_c, kernel_s}
use Rattle.drawn_average.specs.SameEntries.{within_same, table_cell}
use Rattle.refusal.specs.declared.Refusal.{Refusal}

module _ (field : Head) (c s : List Float) (functional : Functional) (love : List Float) (r : Float) where
  -- the factors of the degrees
  abbrev factor : ℕ → Float
  factor = factor_of functional love field.gm field.radius r

  -- the nodes of a basin, and the lists kc and ks that were lent to `basin_kernel`, which hands them back filled
  module _ (L nodes : ℕ) (weights lats : List Float) (marks : List ℕ) (integralsS integralsC kc ks : List Float) where
    abbrev C : ℕ → ℕ → Float
    C = kernel_c L weights lats marks integralsS integralsC nodes

    abbrev S : ℕ → ℕ → Float
    S = kernel_s L weights lats marks integralsS integralsC nodes

    pub drawn_average_lem : (x : Result Float Refusal) → table_size L ≤ length kc → table_size L ≤ length ks
        → WithinMargin (cells c nan) (cells s nan) (cells (fill 0 (along C) (table_size L) kc) nan) (cells (fill 0 (along S) (table_size L) ks) nan) factor
        (min field.nmax L) x → WithinMargin (cells c nan) (cells s nan) C S factor (min field.nmax L) x
    drawn_average_lem x hc hs promise v e f one =
        let N = min field.nmax L in
        let least : N ≤ L = omega arith in
        let entry_c : (n m : ℕ) → n ≤ N → m ≤ n → cells (fill 0 (along C) (table_size L) kc) nan n m ≡ C n m =
        λ n m a b. table_cell C L kc n m (omega arith) b hc in
        let entry_s : (n m : ℕ) → n ≤ N → m ≤ n → cells (fill 0 (along S) (table_size L) ks) nan n m ≡ S n m =
        λ n m a b. table_cell S L ks n m (omega arith) b hs in
        let first = subst AtMostOne (sym (entry_c 0 0 (omega arith) (omega arith))) one in
        within_same (cells c nan) (cells s nan) (cells (fill 0 (along C) (table_size L) kc) nan) (cells (fill 0 (along S) (table_size L) ks) nan) C S factor N
        entry_c entry_s v (promise v e f first)
