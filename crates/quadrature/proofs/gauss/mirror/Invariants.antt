-- `gauss::mirror` meets its contract: i numbers from index `half` on are written, the front is as it was. Assumes nothing.
use Rattle.storage.specs.Filled.{Filled}
use Rattle.quadrature.specs.Gauss.{mirror_from}
use Prim.Native.Nat.{◌+◌, ◌≤◌}
use Rattle.quadrature.proofs.gauss.mirror.Given as goal

abbrev pub invariant-loop-i : goal.invariant-loop-i
invariant-loop-i l = (l.half + l.i ≤ l.n) × Filled l.half (mirror_from l.n l.half l.initial.list) l.i l.initial.list l.list
