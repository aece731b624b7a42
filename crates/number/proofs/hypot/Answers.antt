-- `number::hypot` meets its contract. Assumes nothing.
use borrow.Author.Rules.{rules}
use mathlib.Core.Path.{◌≡◌, sym, ap, ◌∙◌}
use mathlib.Core.Bool.{Bool, true, false}
use lib.Ieee.{Float, eq, lt}
use Rattle.number.specs.Float64.{◌⊘◌, zero64, one64}
use Rattle.number.specs.Sign.{is_infinite, magnitude_of}
use Rattle.number.specs.Hypot.{of_sizes, long_of, infinite_test, hypot_first_infinite, hypot_second_infinite, hypot_first_nan, hypot_second_nan, hypot_sizes}
use Rattle.number.proofs.hypot.Goals as goal

-- a test of a size that was worked out
tested : (x a : Float) (b : Bool) → a ≡ magnitude_of x → eq a (one64 ⊘ zero64) ≡ b → is_infinite x ≡ b
tested x a b e t = sym (infinite_test x) ∙ ap (λ (y : Float). eq y (one64 ⊘ zero64)) (sym e) ∙ t

-- the two ways to order the sizes
module _ (x y a b : Float) (ea : a ≡ magnitude_of x) (eb : b ≡ magnitude_of y) where
  second_larger : lt a b ≡ true → long_of b a ≡ of_sizes (magnitude_of x) (magnitude_of y)
  unfolding of_sizes
  second_larger t = simp (← ea, ← eb, t)

  first_larger : lt a b ≡ false → long_of a b ≡ of_sizes (magnitude_of x) (magnitude_of y)
  unfolding of_sizes
  first_larger t = simp (← ea, ← eb, t)

pub returns-then-a-infinity : goal.returns-then-a-infinity
returns-then-a-infinity c = c.magnitude-a.ensures ∙ hypot_first_infinite _ _ (tested _ _ true c.magnitude-a.ensures c.if-a-infinity.true)

pub returns-then-b-infinity : goal.returns-then-b-infinity
returns-then-b-infinity c =
    c.magnitude-b.ensures
    ∙ hypot_second_infinite _ _ (tested _ _ false c.magnitude-a.ensures c.if-a-infinity.false) (tested _ _ true c.magnitude-b.ensures c.if-b-infinity.true)

pub returns-then-x : goal.returns-then-x
returns-then-x c =
    hypot_first_nan _ _ (tested _ _ false c.magnitude-a.ensures c.if-a-infinity.false) (tested _ _ false c.magnitude-b.ensures c.if-b-infinity.false) c.if-x.true

pub returns-then-y : goal.returns-then-y
returns-then-y c =
    hypot_second_nan _ _ (tested _ _ false c.magnitude-a.ensures c.if-a-infinity.false) (tested _ _ false c.magnitude-b.ensures c.if-b-infinity.false) c.if-x.false
    c.if-y.true

pub returns-then-a-b : goal.returns-then-a-b
returns-then-a-b c =
    c.long.ensures
    ∙ second_larger _ _ _ _ c.magnitude-a.ensures c.magnitude-b.ensures c.if-a-b.true
    ∙ hypot_sizes _ _ (tested _ _ false c.magnitude-a.ensures c.if-a-infinity.false) (tested _ _ false c.magnitude-b.ensures c.if-b-infinity.false) c.if-x.false c.if-y.false

pub returns : goal.returns
returns c =
    c.long-2.ensures
    ∙ first_larger _ _ _ _ c.magnitude-a.ensures c.magnitude-b.ensures c.if-a-b.false
    ∙ hypot_sizes _ _ (tested _ _ false c.magnitude-a.ensures c.if-a-infinity.false) (tested _ _ false c.magnitude-b.ensures c.if-b-infinity.false) c.if-x.false c.if-y.false
