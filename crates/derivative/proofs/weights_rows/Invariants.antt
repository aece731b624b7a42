-- `derivative::weights_rows` meets its contract: the rows below n are written. Assumes nothing.
use Rattle.storage.specs.Filled.{Filled}
use Rattle.storage.specs.Triangle.{row_start, along}
use Rattle.derivative.specs.Derivative.{weight_cell}
use mathlib.Core.Path.{◌≡◌}
use Prim.Native.Nat.{◌+◌, ◌≤◌}
use Rattle.derivative.proofs.weights_rows.Given as goal

abbrev pub invariant-loop-n : goal.invariant-loop-n
invariant-loop-n l = (l.at ≡ row_start l.n) × (l.n ≤ l.nmax + 1) × Filled 0 (along weight_cell) (row_start l.n) l.initial.out l.out
