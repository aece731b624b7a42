-- `rank_rising` meets its contract: the places that are ranked are read. Assumes nothing.
use Rattle.storage.specs.Filled.{filled_self}
use native.Mathlib.Omega.{arith}
use Rattle.polygon.proofs.ends.rank_rising.Goals as goal

pub write_rising-requires : goal.write_rising-requires
write_rising-requires c = record { fact_1 = omega arith; fact_2 = omega arith; fact_3 = omega (arith, c.rank.ensures.filled.long); fact_4 = omega arith; fact_5 = filled_self c.rank.ensures.filled }
