-- `write_rising` meets its contract: the lowest keys are written. Assumes nothing.
use Rattle.storage.specs.Elements.{from_zero}
use Rattle.storage.specs.Filled.{filled_none, filled_more, filled_to}
use Rattle.ranking.specs.Places.{rising}
use lib.Ieee.{nan}
use native.Mathlib.Omega.{arith}
use mathlib.Core.Path.{sym, ◌∙◌}
use Rattle.polygon.proofs.ends.write_rising.Goals as goal

pub loop-i-init : goal.loop-i-init
loop-i-init c = (omega arith, filled_none)

pub rising_at-requires : goal.rising_at-requires
rising_at-requires c = record { fact_1 = omega arith; fact_2 = omega arith; fact_3 = omega arith; fact_4 = c.requires.fact_5 }

pub loop-i-preserved : goal.loop-i-preserved
loop-i-preserved c = (omega arith, filled_more c.loop-i.invariant.1 (omega arith) (c.rising_at.ensures ∙ sym (from_zero (rising c.args.keys.now) nan c.loop-i.i)))

pub returns : goal.returns
returns c = filled_to c.loop-i.invariant.1 (omega arith)
