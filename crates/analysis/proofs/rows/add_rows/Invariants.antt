-- `rows::add_rows` meets its contract: the rows above row i are added. Assumes nothing.
use Rattle.analysis.specs.Analysis.{cosine_sum, sine_sum, row_weight}
use Rattle.analysis.specs.Rows.{legendre_by, SumsBelow}
use mathlib.Core.Path.{◌≡◌}
use Prim.Native.Nat.{◌+◌, ◌*◌, ◌≤◌}
use lib.ListN.{length}
use Rattle.analysis.proofs.rows.add_rows.Given as goal

abbrev pub invariant-loop-i : goal.invariant-loop-i
invariant-loop-i l = (l.i ≤ l.nmax + 1) × (l.at ≡ l.i * l.longitudes)
    × SumsBelow (row_weight l.weights l.nmax) (legendre_by l.a l.b l.latitudes) (cosine_sum l.values l.trig l.nmax) l.nmax l.i l.initial.c l.c
    × SumsBelow (row_weight l.weights l.nmax) (legendre_by l.a l.b l.latitudes) (sine_sum l.values l.trig l.nmax) l.nmax l.i l.initial.s l.s
    × (length l.r ≡ length l.initial.r) × (length l.even ≡ length l.initial.even) × (length l.odd ≡ length l.initial.odd) × (length l.sums ≡ length l.initial.sums)
