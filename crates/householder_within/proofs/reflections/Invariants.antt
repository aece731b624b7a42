-- `reflections` meets its contract. Assumes nothing.
use mathlib.Core.Path.{◌≡◌}
use Prim.Native.Nat.{◌+◌, ◌-◌, ◌*◌, ◌≤◌}
use lib.ListN.{length}
use Rattle.storage.specs.Iterate.{iterate}
use Rattle.matrix.specs.Layout.{Kept}
use Rattle.householder.specs.Reduction.{reflection, reductions}
use Rattle.householder_within.specs.Within.{held_within}
use Rattle.householder_within.proofs.reflections.Given as goal

abbrev pub invariant-loop-k : goal.invariant-loop-k
invariant-loop-k l = (l.k ≤ l.n)
    × (length l.v ≡ length l.initial.v)
    × (length l.p ≡ length l.initial.p)
    × Kept (l.at + l.n * l.n) l.initial.w l.w
    × (iterate (reflection l.n) l.k (l.n - 2) (held_within l.n l.at l.w) ≡ reductions l.n (held_within l.n l.at l.initial.w))
