-- `degrees::add_degrees` meets its contract: the terms of the degrees below n are added, and the last two rows of q are at hand. Assumes nothing.
use Rattle.legendre_analysis.specs.Degrees.{DegreesBelow}
use mathlib.Core.Path.{◌≡◌}
use Prim.Native.Nat.{◌*◌}
use lib.ListN.{length}
use Rattle.legendre_analysis.proofs.degrees.add_degrees.Given as goal

abbrev pub invariant-loop-pair : goal.invariant-loop-pair
invariant-loop-pair l = (length l.even ≡ length l.initial.even) × (length l.odd ≡ length l.initial.odd)
    × DegreesBelow (2 * l.pair) l.at l.t l.u l.weight l.a l.b l.sums l.odd l.even l.initial.c l.initial.s l.c l.s
