-- `geopotential_ranks_before` meets its contract. Assumes nothing.
use borrow.Author.Rules.{rules}
use mathlib.Core.Path.{◌≡◌, refl, sym, ◌∙◌}
use mathlib.Core.Bool.{Bool, true, false, cond}
use Prim.Native.Nat.{ℕ}
use Rattle.geopotential.proofs.numbers.geopotential_ranks_before.Goals as goal

yes : (b : Bool) → b ≡ true → ◌≡◌ {A = ℕ} 1 (cond b 1 0)
yes b h = rw h refl

no : (b : Bool) → b ≡ false → ◌≡◌ {A = ℕ} 0 (cond b 1 0)
no b h = rw h refl

pub returns-then-ranks_before : goal.returns-then-ranks_before
returns-then-ranks_before c = yes _ (sym c.ranks_before.ensures ∙ c.if-ranks_before.true)

pub returns-else-ranks_before : goal.returns-else-ranks_before
returns-else-ranks_before c = no _ (sym c.ranks_before.ensures ∙ c.if-ranks_before.false)
