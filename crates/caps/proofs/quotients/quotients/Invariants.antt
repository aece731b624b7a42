-- `quotients` meets its contract: the rows above row i are added to each column's sum. Assumes nothing.
use Rattle.caps.specs.Quotients.{rows_sum}
use Rattle.storage.specs.Filled.{Filled}
use mathlib.Core.Path.{◌≡◌}
use Prim.Native.Nat.{◌*◌, ◌≤◌}
use lib.ListN.{length}
use Rattle.caps.proofs.quotients.quotients.Given as goal

abbrev pub invariant-loop-i : goal.invariant-loop-i
invariant-loop-i l = (l.i ≤ l.k) × (l.row ≡ l.i * l.k) × (length l.y ≡ length l.initial.y) × Filled 0
    (rows_sum l.k l.at l.vectors l.work l.i) l.k l.initial.sums l.sums
