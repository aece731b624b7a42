-- `rotations` meets its contract: those still to come make of the lists now what all make of the lists at the start. Assumes nothing.
use Rattle.ql.specs.Ql.{chase, broken_off, rotate_at}
use Rattle.ql.specs.QlLaws.{held, Kept₃}
use Rattle.storage.specs.Iterate.{iterate_down}
use mathlib.Core.Path.{◌≡◌}
use Rattle.std.specs.Prelude.{Some}
use Prim.Native.Nat.{◌-◌, ◌≤◌}
use Rattle.ql.proofs.rotations.Given as goal

abbrev pub invariant-loop-i : goal.invariant-loop-i
invariant-loop-i l = Kept₃ l.n l.initial.q l.d l.e l.q × (l.i ≤ l.m)
    × (iterate_down broken_off (rotate_at l.n l.m) l.l (l.i - l.l) (chase (held l.n l.d l.e l.q) (Some l.x)) ≡ iterate_down broken_off (rotate_at l.n l.m) l.l (l.m - l.l) (chase
    (held l.n l.initial.d l.initial.e l.initial.q) (Some l.initial.x)))
