-- `next` meets its contract: one law for each way through its tests. Assumes nothing.
use mathlib.Core.Path.{◌≡◌}
use mathlib.Core.Bool.{Bool}
use mathlib.Core.List.{List}
use Prim.Native.Nat.{ℕ}
use native.Mathlib.Omega.{arith}
use lib.ListN.{get_or}
use lib.Ieee.{Float, nan}
use Rattle.number.specs.Order.{ranks_before}
use Rattle.ranking.specs.Places.{key_before}
use Rattle.ranking.specs.Merging.{first_of_both, second_of_both, first_alone, second_alone}
use Rattle.ranking.proofs.next.Goals as goal

-- the keys that were read are those at the two places
tested : (keys : List Float) {i j i' j' : ℕ} {x y : Float} {b z : Bool} → i ≡ i' → j ≡ j' → x ≡ get_or keys j nan → y ≡ get_or keys i nan → b ≡ ranks_before x y
    → b ≡ z → key_before keys j' i' ≡ z
unfolding key_before
tested keys ei ej ex ey eb ez = cc

pub returns-then-i-mid : goal.returns-then-i-mid
returns-then-i-mid c = second_alone _ _ _ _ _ _ (omega arith) (omega arith) c.if-i-mid.true (omega arith)

pub returns-then-j-hi : goal.returns-then-j-hi
returns-then-j-hi c = first_alone _ _ _ _ _ _ (omega arith) (omega arith) (omega arith) c.if-j-hi.true

pub returns-then-ranks_before : goal.returns-then-ranks_before
returns-then-ranks_before c =
    second_of_both _ _ _ _ _ _ (omega arith) (omega arith) (omega arith) (omega arith)
    (tested c.args.keys.now c.from-first.ensures c.from-second.ensures c.element_or_nan.ensures c.element_or_nan-2.ensures c.ranks_before.ensures
    c.if-ranks_before.true)

pub returns : goal.returns
returns c =
    first_of_both _ _ _ _ _ _ (omega arith) (omega arith) (omega arith) (omega arith)
    (tested c.args.keys.now c.from-first.ensures c.from-second.ensures c.element_or_nan.ensures c.element_or_nan-2.ensures c.ranks_before.ensures
    c.if-ranks_before.false)
