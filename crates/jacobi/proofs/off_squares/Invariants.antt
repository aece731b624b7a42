-- `off_squares` meets its contract: row by row. Assumes nothing.
use mathlib.Core.Path.{◌≡◌}
use Rattle.storage.specs.Iterate.{iterate}
use Rattle.matrix.specs.Layout.{plain}
use Rattle.jacobi.specs.Jacobi.{add_off_row}
use Rattle.jacobi.proofs.off_squares.Given as goal

abbrev pub invariant-loop-p : goal.invariant-loop-p
invariant-loop-p l = iterate (add_off_row l.n (plain l.n l.a)) l.p l.n l.t ≡ iterate (add_off_row l.n (plain l.n l.a)) 0 l.n l.initial.t
