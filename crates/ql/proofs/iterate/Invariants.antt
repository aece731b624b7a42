-- `iterate` meets its contract: the l still to come make of the lists now what all make of the lists at the start. Assumes nothing.
use Rattle.ql.specs.Ql.{state, rounds_at, iteration}
use Rattle.ql.specs.QlLaws.{held, Kept₃}
use Rattle.storage.specs.Iterate.{iterate}
use mathlib.Core.Path.{◌≡◌}
use Prim.Native.Nat.{◌*◌, ◌≤◌}
use Rattle.ql.proofs.iterate.Given as goal

abbrev pub invariant-loop-l : goal.invariant-loop-l
invariant-loop-l l = Kept₃ l.n l.initial.q l.d l.e l.q × (l.l ≤ l.n) × (l.done ≤ 100 * l.l)
    × (iterate (rounds_at l.n) l.l l.n (state (held l.n l.d l.e l.q) l.done l.settled) ≡ iteration l.n (held l.n l.initial.d l.initial.e l.initial.q))
