-- `legendre::mirrors::mirror_row` meets its contract: every other sign of the orders below m is turned. Assumes nothing.
use Rattle.storage.specs.Elements.{from}
use Rattle.storage.specs.Filled.{Filled}
use Rattle.legendre.specs.Mirrored.{mirrored_row}
use lib.Ieee.{nan}
use Prim.Native.Nat.{◌+◌, ◌*◌, min}
use Rattle.legendre.proofs.mirrors.mirror_row.Given as goal

abbrev pub invariant-loop-pair : goal.invariant-loop-pair
invariant-loop-pair l = Filled l.at (mirrored_row l.shift l.n (from l.at l.initial.table nan)) (min (l.first + 2 * l.pair) (l.n + 1)) l.initial.table l.table
