-- `sums::add_degrees` meets its contract: the degrees below n are added, and the last two rows of the recursion are at hand. Assumes nothing.
use Rattle.point_sums.specs.Sums.{DegreesBelow}
use mathlib.Core.Path.{◌≡◌}
use Prim.Native.Nat.{◌*◌}
use lib.ListN.{length}
use Rattle.point_sums.proofs.add_degrees.Given as goal

abbrev pub invariant-loop-pair : goal.invariant-loop-pair
invariant-loop-pair l = (length l.even ≡ length l.initial.even) × (length l.odd ≡ length l.initial.odd) × (length l.p ≡ length l.initial.p) × (length l.d ≡ length l.initial.d)
    × DegreesBelow (2 * l.pair) l.at l.q l.t l.u l.k l.c l.s l.trig l.odd l.even l.sums
