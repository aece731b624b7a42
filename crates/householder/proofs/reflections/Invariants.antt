-- `reflections` meets its contract: the reflections from k on make of the matrices now what all of them make of the matrices at the start. Assumes nothing.
use mathlib.Core.Path.{◌≡◌}
use Prim.Native.Nat.{◌-◌, ◌*◌, ◌≤◌}
use lib.ListN.{length}
use Rattle.storage.specs.Iterate.{iterate}
use Rattle.matrix.specs.Layout.{transposed, Kept}
use Rattle.householder.specs.Reduction.{reduction_of, reflection, reductions}
use Rattle.householder.proofs.reflections.Given as goal

abbrev pub invariant-loop-k : goal.invariant-loop-k
invariant-loop-k l = (l.k ≤ l.n)
    × (length l.v ≡ length l.initial.v)
    × (length l.p ≡ length l.initial.p)
    × Kept (l.n * l.n) l.initial.w l.w
    × Kept (l.n * l.n) l.initial.q l.q
    × (iterate (reflection l.n) l.k (l.n - 2) (reduction_of (transposed l.n l.w) (transposed l.n l.q))
    ≡ reductions l.n (reduction_of (transposed l.n l.initial.w) (transposed l.n l.initial.q)))
