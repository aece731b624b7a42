-- `Functional::factors` meets its contract: the factors below degree n are written. Assumes nothing.
use Rattle.functional.specs.Factor.{factor_of}
use Rattle.storage.specs.Filled.{Filled}
use Prim.Native.Nat.{◌+◌, ◌≤◌}
use Rattle.functional.proofs.Functional.factors.Given as goal

abbrev pub invariant-loop-n : goal.invariant-loop-n
invariant-loop-n l = (l.n ≤ l.nmax + 1) × Filled 0 (factor_of l.self l.love l.gm l.radius l.r) l.n l.initial.out l.out
