-- `is_first` meets its contract. Assumes nothing.
use Rattle.polygon.specs.BreaksLaws.{first_zero, first_equal, first_other}
use native.Mathlib.Omega.{arith}
use Rattle.polygon.proofs.colatitudes.is_first.Goals as goal

pub returns-then-i-eq0 : goal.returns-then-i-eq0
returns-then-i-eq0 c = first_zero _ _ c.if-i-eq0.true

pub rising_at-requires : goal.rising_at-requires
rising_at-requires c = record { fact_1 = omega arith; fact_2 = omega arith; fact_3 = omega arith; fact_4 = c.requires.fact_4 }

pub rising_at-requires-2 : goal.rising_at-requires-2
rising_at-requires-2 c = record { fact_1 = omega arith; fact_2 = omega arith; fact_3 = omega arith; fact_4 = c.requires.fact_4 }

pub returns-then-rising_at : goal.returns-then-rising_at
returns-then-rising_at c = first_equal _ _ c.if-i-eq0.false c.rising_at.ensures c.rising_at-2.ensures c.if-rising_at.true

pub returns : goal.returns
returns c = first_other _ _ c.if-i-eq0.false c.rising_at.ensures c.rising_at-2.ensures c.if-rising_at.false
