-- `degrees::amplitudes` meets its contract: the variances of the degrees below n are replaced. Assumes nothing.
use Rattle.coefficients.specs.Values.{amplitude_of}
use Rattle.storage.specs.Filled.{Filled}
use Prim.Native.Nat.{◌+◌, ◌≤◌}
use Rattle.coefficients.proofs.degrees.amplitudes.Given as goal

abbrev pub invariant-loop-n : goal.invariant-loop-n
invariant-loop-n l = (l.n ≤ l.nmax + 1) × Filled 0 (amplitude_of l.functional l.love l.gm l.radius l.c l.s) l.n l.initial.out l.out
