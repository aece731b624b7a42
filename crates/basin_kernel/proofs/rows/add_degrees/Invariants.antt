-- `rows::add_degrees` meets its contract: the degrees below n are added, and the last two rows of q are at hand. Assumes nothing.
use Rattle.basin_kernel.specs.Rows.{DegreesBelow}
use mathlib.Core.Path.{◌≡◌}
use Prim.Native.Nat.{◌*◌}
use lib.ListN.{length}
use Rattle.basin_kernel.proofs.rows.add_degrees.Given as goal

abbrev pub invariant-loop-pair : goal.invariant-loop-pair
invariant-loop-pair l = (length l.even ≡ length l.initial.even) × (length l.odd ≡ length l.initial.odd)
    × DegreesBelow (2 * l.pair) l.at l.start l.pmm l.t l.u l.weight l.a l.b l.s l.c l.odd l.even l.initial.kc l.initial.ks l.kc l.ks
