-- `store_three` meets its contract. Assumes nothing.
use Rattle.storage.specs.Elements.{from}
use Rattle.storage.specs.Filled.{Filled}
use lib.Ieee.{nan}
use Rattle.geopotential.proofs.points.store_three.Given as goal

abbrev pub invariant-loop-i : goal.invariant-loop-i
invariant-loop-i l = Filled 0 (from 0 l.three nan) l.i l.initial.out l.out
