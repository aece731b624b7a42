-- `functions_of` meets its contract: the numbers below place r are written. Assumes nothing.
use Rattle.region_nodes.specs.Nodes.{in_row}
use Rattle.storage.specs.Filled.{Filled}
use Prim.Native.Nat.{◌+◌, ◌≤◌}
use Rattle.region_nodes.proofs.basis.functions_of.Given as goal

abbrev pub invariant-loop-r : goal.invariant-loop-r
invariant-loop-r l = (l.r ≤ l.l + l.l + 1) × Filled l.at (in_row l.start l.p) l.r l.initial.functions l.functions
