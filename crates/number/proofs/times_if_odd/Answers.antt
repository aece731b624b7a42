-- `number::times_if_odd` meets its contract: a product with 1 is exact. Assumes nothing.
use borrow.Author.Rules.{rules}
use native.Mathlib.Omega.{arith}
use mathlib.Core.Path.{◌≡◌, refl, sym, subst}
use mathlib.Core.List.{[], ◌∷◌}
use Prim.Native.Nat.{ℕ, zero, suc, ◌%◌, ◌<◌}
use mathlib.Core.Bool.{cond}
use lib.Dec.{T, eqb}
use lib.ListN.{get_or}
use lib.Ieee.{Float, binary64, fits}
use Rattle.number.specs.Float64.{◌⊗◌, one64}
use Rattle.number.specs.Power.{times_if_odd}
use Rattle.number.specs.Identities.{times_one}
use Rattle.number.proofs.times_if_odd.Goals as goal

by_index : (e : ℕ) (r b : Float) (z : Float) → T (fits binary64 r) → r ⊗ get_or (one64 ∷ b ∷ []) (e % 2) z ≡ times_if_odd e r b
unfolding times_if_odd
by_index e r b z h = go (e % 2) (omega arith)
  where
    go : (k : ℕ) → k < 2 → r ⊗ get_or (one64 ∷ b ∷ []) k z ≡ cond (eqb k 1) (r ⊗ b) r
    go zero l = times_one r h
    go (suc zero) l = refl
    go (suc (suc k)) l = absurd (omega arith)

pub returns : goal.returns
returns c = by_index _ _ _ _ (subst T (sym c.well_formed.1.0.1) tt)
