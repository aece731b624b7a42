-- Lists as functions of the index: a list that is read as a table, and what a list is cleared to. Assumes nothing.
use Rattle.std.specs.Prelude.{◌≡◌, ℕ, ◌+◌, List, Float}
use Rattle.std.proofs.Math.Path.{ap}
use Rattle.std.proofs.Common.{zero-add}
use Rattle.std.proofs.Math.ListN.{get_or}
use Rattle.std.specs.Float.{binary64}
use Rattle.std.specs.Float.Ieee.{of_bits}

-- +0, at every index
abbrev pub zero_at : ℕ → Float
zero_at k = of_bits binary64 0

module _ {A : Type 0} where
  -- the elements of l from index at on, with z past its end
  unfoldable pub from : ℕ → List A → A → ℕ → A
  from at l z k = get_or l (at + k) z

  pub from_zero : (l : List A) (z : A) (k : ℕ) → from 0 l z k ≡ get_or l k z
  unfolding from
  from_zero l z k = ap (λ (i : ℕ). get_or l i z) (zero-add k)
