-- `rotate_runs` meets its contract: k pairs are rotated. Assumes nothing.
use Prim.Native.Nat.{◌≤◌}
use Rattle.matrix.specs.Layout.{RunsRotated}
use Rattle.matrix.proofs.rotate_runs.Given as goal

abbrev pub invariant-loop-k : goal.invariant-loop-k
invariant-loop-k l = (l.k ≤ l.n) × RunsRotated l.c l.s l.at l.to l.k l.initial.list l.list
