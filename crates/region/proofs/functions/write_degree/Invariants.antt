-- `functions::write_degree` meets its contract: the numbers below order m are written. Assumes nothing.
use Prim.Native.Nat.{◌≤◌}
use Rattle.storage.specs.Filled.{Filled}
use Rattle.region.specs.Written.{number_in}
use Rattle.region.proofs.functions.write_degree.Given as goal

abbrev pub invariant-loop-m : goal.invariant-loop-m
invariant-loop-m l = (l.m ≤ l.count) × Filled l.to (number_in l.sine l.w l.at) l.m l.initial.out l.out
