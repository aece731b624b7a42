-- `gauss::lower_half` meets its contract: the nodes below index j are written, the others are as they were. Assumes nothing.
use Rattle.storage.specs.Filled.{Filled}
use Rattle.quadrature.specs.Gauss.{lower_from}
use Prim.Native.Nat.{◌≤◌}
use Rattle.quadrature.proofs.gauss.lower_half.Given as goal

abbrev pub invariant-loop-j : goal.invariant-loop-j
invariant-loop-j l = (l.j ≤ l.half) × Filled 0 (lower_from l.n l.initial.x) l.j l.initial.x l.x
