-- `degrees::variances` meets its contract: the numbers of the degrees below n are written. Assumes nothing.
use Rattle.coefficients.specs.Values.{variance_of}
use Rattle.storage.specs.Triangle.{row_start}
use Rattle.storage.specs.Filled.{Filled}
use mathlib.Core.Path.{◌≡◌}
use Prim.Native.Nat.{◌*◌}
use Rattle.coefficients.proofs.degrees.variances.Given as goal

abbrev pub invariant-loop-pair : goal.invariant-loop-pair
invariant-loop-pair l = (l.at ≡ row_start (2 * l.pair)) × Filled 0 (variance_of l.c l.s) (2 * l.pair) l.initial.out l.out
