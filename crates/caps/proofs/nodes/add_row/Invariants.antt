-- `add_row` meets its contract: the numbers below j are added. Assumes nothing.
use Rattle.caps.specs.Nodes.{added_cell}
use Rattle.number.specs.Float64.{◌⊗◌}
use Rattle.storage.specs.Filled.{Filled}
use Prim.Native.Nat.{◌≤◌}
use Rattle.caps.proofs.nodes.add_row.Given as goal

abbrev pub invariant-loop-j : goal.invariant-loop-j
invariant-loop-j l = (l.j ≤ l.k) × Filled l.at (added_cell (l.x ⊗ l.p) l.col l.initial.work l.at) l.j l.initial.work l.work
