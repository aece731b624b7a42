-- `rotate_runs` meets its contract: k pairs are rotated. Assumes nothing.
use lib.ListN.{length-set}
use native.Mathlib.Omega.{arith}
use mathlib.Core.Path.{◌≡◌}
use Prim.Native.Nat.{◌-◌, ◌≤◌}
use Rattle.matrix.specs.Layout.{RunsRotated, runs_none, runs_more}
use Rattle.matrix.proofs.rotate_runs.Goals as goal

pub loop-k-init : goal.loop-k-init
loop-k-init c = (omega arith, runs_none)

pub bounds-list-to-in-loop-k : goal.bounds-list-to-in-loop-k
bounds-list-to-in-loop-k c = simp length-set (omega arith)

pub loop-k-preserved : goal.loop-k-preserved
loop-k-preserved c = (omega arith, runs_more c.loop-k.invariant.1 (omega arith))

pub returns : goal.returns
returns c = let e : c.loop-k.k ≡ c.args.n = omega arith in rw (← e) c.loop-k.invariant.1
