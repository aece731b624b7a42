-- `number::ranks_before` meets its contract. Assumes nothing.
use borrow.Author.Rules.{rules}
use mathlib.Core.Path.{◌≡◌, refl, sym, ◌∙◌}
use mathlib.Core.Bool.{Bool, true, false, not, ◌&&◌}
use Rattle.number.specs.Sign.{negative}
use Rattle.number.specs.Patterns.{differs_is_nan, self_number}
use Rattle.number.specs.Order.{below_less, below_equal, below_nan, below_else, self_equal}
use Rattle.number.proofs.ranks_before.Goals as goal

and_false : (a b : Bool) → b ≡ true → false ≡ a && not b
and_false true b h = rw h refl
and_false false b h = refl

and_true : (a b : Bool) → b ≡ false → a ≡ a && not b
and_true true b h = rw h refl
and_true false b h = refl

pub returns-then-y-x : goal.returns-then-y-x
returns-then-y-x c = below_less _ _ c.if-y-x.true

pub returns-then-is_negative : goal.returns-then-is_negative
returns-then-is_negative c = and_false (negative c.args.y) _ (sym c.is_negative.ensures ∙ c.if-is_negative.true) ∙ below_equal _ _ c.if-y-x.false c.if-y-x-2.true

pub returns-then-y-x-2 : goal.returns-then-y-x-2
returns-then-y-x-2 c =
    c.is_negative-then-y-x-2.ensures ∙ and_true _ _ (sym c.is_negative.ensures ∙ c.if-is_negative.false) ∙ below_equal _ _ c.if-y-x.false c.if-y-x-2.true

pub returns-then-x : goal.returns-then-x
returns-then-x c = self_equal _ ∙ below_nan _ _ (differs_is_nan _ c.if-x.true)

pub returns : goal.returns
returns c = below_else _ _ c.if-y-x.false c.if-y-x-2.false (self_number _ c.if-x.false)
