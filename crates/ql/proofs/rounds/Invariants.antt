-- `rounds` meets its contract: the rounds still to come make of the lists now what all make of the lists at the start. Assumes nothing.
use Rattle.ql.specs.Ql.{state, settled_in, round_unless_alone, rounds}
use Rattle.ql.specs.QlLaws.{held, Kept₃}
use Rattle.storage.specs.Iterate.{iterate_until}
use mathlib.Core.Bool.{false}
use mathlib.Core.Path.{◌≡◌}
use Prim.Native.Nat.{◌+◌, ◌-◌, ◌≤◌}
use Rattle.ql.proofs.rounds.Given as goal

abbrev pub invariant-loop-k : goal.invariant-loop-k
invariant-loop-k l = Kept₃ l.n l.initial.q l.d l.e l.q × (l.k ≤ 100)
    × (iterate_until settled_in (round_unless_alone l.n l.l) (100 - l.k) (state (held l.n l.d l.e l.q) (l.done + l.k) false) ≡ rounds l.n l.l (held l.n l.initial.d l.initial.e l.initial.q) l.done)
