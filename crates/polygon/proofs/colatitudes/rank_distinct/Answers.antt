-- `rank_distinct` meets its contract: there is room for the numbers that are kept, or not. Assumes nothing.
use Rattle.polygon.specs.CheckLaws.{room_short, room_enough, count_refused, count_done}
use Rattle.storage.specs.Filled.{filled_self}
use native.Mathlib.Omega.{arith}
use mathlib.Core.Path.{refl}
use Rattle.polygon.proofs.colatitudes.rank_distinct.Goals as goal

pub count_distinct-k-requires : goal.count_distinct-k-requires
count_distinct-k-requires c = record { fact_1 = omega arith; fact_2 = omega (arith, c.rank.ensures.filled.long); fact_3 = filled_self c.rank.ensures.filled }

pub returns-then-out-k : goal.returns-then-out-k
returns-then-out-k c = let e = c.count_distinct-k.ensures in record { value = count_refused _ (room_short _ _ (omega (arith, e))); out_after = refl }

pub write_distinct-requires : goal.write_distinct-requires
write_distinct-requires c = let e = c.count_distinct-k.ensures in record { fact_1 = omega arith; fact_2 = omega (arith, c.rank.ensures.filled.long); fact_3 = filled_self c.rank.ensures.filled; fact_4 = omega (arith, e) }

pub returns : goal.returns
returns c = let e = c.count_distinct-k.ensures in record { value = count_done (room_enough _ _ (omega (arith, e))) e; out_after = c.write_distinct.ensures.is }
