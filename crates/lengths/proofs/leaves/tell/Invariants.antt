-- `leaves::tell` meets its contract: the lengths go to the front one after the other. Assumes nothing.
use Rattle.storage.specs.Elements.{from}
use Rattle.storage.specs.Filled.{Filled}
use Rattle.lengths.proofs.leaves.tell.Given as goal

abbrev pub invariant-loop-i : goal.invariant-loop-i
invariant-loop-i l = Filled 0 (from 0 l.told 0) l.i l.initial.lengths l.lengths
