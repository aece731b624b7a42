-- `write_first` meets its contract. Assumes nothing.
use Rattle.polygon.specs.Outline.{is_first, number_at}
use Rattle.polygon.specs.PickedLaws.{counted_more, stored, passed}
use Rattle.ranking.specs.Places.{rising}
use native.Mathlib.Omega.{arith}
use Rattle.polygon.proofs.colatitudes.write_first.Goals as goal

pub is_first-requires : goal.is_first-requires
is_first-requires c = record { fact_1 = omega arith; fact_2 = omega arith; fact_3 = omega arith; fact_4 = c.requires.i_in_bounds_4 }

pub rising_at-requires : goal.rising_at-requires
rising_at-requires c = record { fact_1 = omega arith; fact_2 = omega arith; fact_3 = omega arith; fact_4 = c.requires.i_in_bounds_4 }

pub bounds-out-k : goal.bounds-out-k
bounds-out-k c =
    let l = rising c.args.keys.now in
    let e = (counted_more (is_first l) (number_at l) c.args.i c.args.k c.is_first.ensures c.if-is_first.true).goes c.requires.k_le_i_2 in
    omega (arith, e, c.requires.k_le_i_3)

pub returns-then-is_first : goal.returns-then-is_first
unfolding number_at
returns-then-is_first c = stored _ _ _ _ c.is_first.ensures c.if-is_first.true c.rising_at.ensures

pub returns : goal.returns
returns c = passed _ _ _ _ c.is_first.ensures c.if-is_first.false
