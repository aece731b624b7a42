-- `add_node` meets its contract: the rows above row i, which is that of place a of degree l, are added. Assumes nothing.
use mathlib.Core.Path.{◌≡◌}
use Prim.Native.Nat.{◌+◌, ◌*◌, ◌≤◌}
use Rattle.storage.specs.Filled.{Filled}
use Rattle.storage.specs.Rectangle.{by_rows}
use Rattle.regions.specs.Sums.{added_cell}
use Rattle.regions.proofs.sums.add_node.Given as goal

abbrev pub invariant-loop-i : goal.invariant-loop-i
invariant-loop-i l = (l.i ≤ l.n) × (l.i ≡ l.l * l.l + l.a) × (l.a ≤ l.l + l.l) × Filled 0 (by_rows (added_cell l.lmax l.n l.weight l.functions l.products l.initial.d) l.n) (l.i * l.n) l.initial.d l.d
