-- `add_row` meets its contract: the degrees below k are added. Assumes nothing.
use mathlib.Core.Path.{◌≡◌}
use Prim.Native.Nat.{◌*◌, ◌≤◌}
use Rattle.storage.specs.Filled.{Filled}
use Rattle.regions.specs.Sums.{added_row}
use Rattle.regions.proofs.sums.add_row.Given as goal

abbrev pub invariant-loop-k : goal.invariant-loop-k
invariant-loop-k l = (l.k ≤ l.l) × (l.first ≡ l.k * l.k) × Filled l.at (added_row l.lmax l.x l.row l.at l.functions l.products l.initial.d) l.first l.initial.d l.d
