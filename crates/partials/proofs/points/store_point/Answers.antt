-- `points::store_point` meets its contract: one store after the other. Assumes nothing.
use Rattle.local.specs.Point.{component}
use Rattle.storage.specs.Filled.{filled_one, filled_more}
use lib.ListN.{length-set}
use native.Mathlib.Omega.{arith}
use mathlib.Core.Path.{refl}
use Rattle.partials.proofs.points.store_point.Goals as goal

pub bounds-out-at-2 : goal.bounds-out-at-2
bounds-out-at-2 c = simp length-set (omega arith)

pub bounds-out-at-3 : goal.bounds-out-at-3
bounds-out-at-3 c = simp length-set (omega arith)

pub bounds-out-at-4 : goal.bounds-out-at-4
bounds-out-at-4 c = simp length-set (omega arith)

pub returns : goal.returns
unfolding component
returns c = filled_more (filled_more (filled_more (filled_one _ refl) refl refl) refl refl) refl refl
