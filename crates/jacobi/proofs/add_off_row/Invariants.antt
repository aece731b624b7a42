-- `add_off_row` meets its contract: the same, from column p + 1 on. Assumes nothing.
use mathlib.Core.Path.{◌≡◌}
use Prim.Native.Nat.{◌+◌, ◌≤◌}
use Rattle.matrix.specs.Layout.{plain}
use Rattle.storage.specs.Iterate.{iterate}
use Rattle.jacobi.specs.Jacobi.{add_off_square}
use Rattle.jacobi.proofs.add_off_row.Given as goal

abbrev pub invariant-loop-q : goal.invariant-loop-q
invariant-loop-q l = (l.p + 1 ≤ l.q) × (iterate (add_off_square l.n (plain l.n l.a) l.p) l.q l.n l.t ≡ iterate (add_off_square l.n (plain l.n l.a) l.p) (l.p + 1) l.n l.from)
