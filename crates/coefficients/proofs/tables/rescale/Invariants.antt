-- `tables::rescale` meets its contract: the rows below n of both tables are written. Assumes nothing.
use Rattle.coefficients.specs.Values.{rescaled_entry}
use Rattle.storage.specs.Triangle.{row_start, along}
use Rattle.storage.specs.Filled.{Filled}
use mathlib.Core.Path.{◌≡◌}
use Prim.Native.Nat.{◌+◌, ◌≤◌}
use Rattle.coefficients.proofs.tables.rescale.Given as goal

abbrev pub invariant-loop-n : goal.invariant-loop-n
invariant-loop-n l = (l.at ≡ row_start l.n)
    × (l.n ≤ l.nmax + 1)
    × Filled 0 (along (rescaled_entry l.q l.t l.c)) (row_start l.n) l.initial.outc l.outc
    × Filled 0 (along (rescaled_entry l.q l.t l.s)) (row_start l.n) l.initial.outs l.outs
