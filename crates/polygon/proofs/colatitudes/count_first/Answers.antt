-- `count_first` meets its contract. Assumes nothing.
use Rattle.polygon.specs.PickedLaws.{counted_more, counted_same}
use native.Mathlib.Omega.{arith}
use Rattle.polygon.proofs.colatitudes.count_first.Goals as goal

pub is_first-requires : goal.is_first-requires
is_first-requires c = record { fact_1 = omega arith; fact_2 = omega arith; fact_3 = omega arith; fact_4 = c.requires.fact_5 }

pub returns-then-is_first : goal.returns-then-is_first
returns-then-is_first c = counted_more _ _ _ _ c.is_first.ensures c.if-is_first.true

pub returns : goal.returns
returns c = counted_same _ _ _ _ c.is_first.ensures c.if-is_first.false
