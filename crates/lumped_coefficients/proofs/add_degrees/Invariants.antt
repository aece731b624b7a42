-- `add_degrees` meets its contract: the degrees below n are added, and the last two rows of q are at hand. Assumes nothing.
use mathlib.Core.Path.{◌≡◌}
use Prim.Native.Nat.{◌*◌}
use lib.ListN.{length}
use Rattle.lumped_coefficients.specs.Orders.{DegreesBelow}
use Rattle.lumped_coefficients.proofs.add_degrees.Given as goal

abbrev pub invariant-loop-pair : goal.invariant-loop-pair
invariant-loop-pair l = (length l.even ≡ length l.initial.even) × (length l.odd ≡ length l.initial.odd) × (length l.p ≡ length l.initial.p)
    × DegreesBelow (2 * l.pair) l.at l.nmax l.t l.u l.a l.b l.c l.s l.factors l.odd l.even l.initial.x l.initial.y l.x l.y
