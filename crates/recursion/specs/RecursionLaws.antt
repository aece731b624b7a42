-- The recursion coefficients below the diagonal and on it, as the code works them out, with the order as a double. Assumes nothing.
use Rattle.std.specs.Prelude.{◌≡◌, refl, ℕ, ◌+◌, ◌≤◌, ◌<◌, Float}
use Rattle.std.proofs.Common.{arith, lt-ltb, le-ltb}
use Rattle.number.specs.Float64.{◌⊕◌, ◌⊖◌, ◌⊗◌, ◌⊘◌, of_whole, zero64, one64, two64, three64}
use Rattle.number.specs.Root.{root_of}
use Rattle.recursion.specs.Recursion.{a_cell, b_cell}

pub a_below : (n m : ℕ) {mf : Float} → mf ≡ of_whole m → m < n
    → root_of ((two64 ⊗ of_whole n ⊖ one64) ⊗ (two64 ⊗ of_whole n ⊕ one64) ⊘ ((of_whole n ⊖ mf) ⊗ (of_whole n ⊕ mf))) ≡ a_cell n m
unfolding a_cell
a_below n m e h = simp (e, lt-ltb m n h)

pub a_diagonal : (n : ℕ) → zero64 ≡ a_cell n n
unfolding a_cell
a_diagonal n = simp (le-ltb n n (omega arith))

pub b_below : (n m : ℕ) {mf : Float} → mf ≡ of_whole m → m + 1 < n
    → root_of
    ((two64 ⊗ of_whole n ⊕ one64) ⊗ (of_whole n ⊕ mf ⊖ one64) ⊗ (of_whole n ⊖ mf ⊖ one64)
    ⊘ ((of_whole n ⊖ mf) ⊗ (of_whole n ⊕ mf) ⊗ (two64 ⊗ of_whole n ⊖ three64)))
    ≡ b_cell n m
unfolding b_cell
b_below n m e h = simp (e, lt-ltb (m + 1) n h)

pub b_top : (n m : ℕ) → n ≤ m + 1 → zero64 ≡ b_cell n m
unfolding b_cell
b_top n m h = simp (le-ltb (m + 1) n h)
