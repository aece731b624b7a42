-- `load` meets its contract: the first i numbers are written. Assumes nothing.
use native.Mathlib.Nat.{zero-add}
use native.Mathlib.Omega.{arith}
use mathlib.Core.Path.{sym}
use Rattle.storage.specs.Filled.{filled_none, filled_more}
use Rattle.replay.specs.Answers.{number_at}
use Rattle.replay.proofs.load.Goals as goal

pub loop-i-init : goal.loop-i-init
loop-i-init c = (omega arith, filled_none)

pub loop-i-preserved : goal.loop-i-preserved
unfolding number_at
loop-i-preserved c = (omega arith, filled_more c.loop-i.invariant.1 (sym (zero-add _)) c.number_of_bits.ensures)
