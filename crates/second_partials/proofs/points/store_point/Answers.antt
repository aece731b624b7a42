-- `points::store_point` meets its contract: one store after the other. Assumes nothing.
use Rattle.local.specs.Second.{second_component}
use Rattle.storage.specs.Filled.{filled_one, filled_more}
use lib.ListN.{length-set}
use native.Mathlib.Omega.{arith}
use mathlib.Core.Path.{refl}
use Rattle.second_partials.proofs.points.store_point.Goals as goal

pub bounds-out-at-2 : goal.bounds-out-at-2
bounds-out-at-2 c = simp length-set (omega (arith, c.requires))

pub bounds-out-at-3 : goal.bounds-out-at-3
bounds-out-at-3 c = simp length-set (omega (arith, c.requires))

pub bounds-out-at-4 : goal.bounds-out-at-4
bounds-out-at-4 c = simp length-set (omega (arith, c.requires))

pub bounds-out-at-5 : goal.bounds-out-at-5
bounds-out-at-5 c = simp length-set (omega (arith, c.requires))

pub bounds-out-at-6 : goal.bounds-out-at-6
bounds-out-at-6 c = simp length-set (omega (arith, c.requires))

pub bounds-out-at-7 : goal.bounds-out-at-7
bounds-out-at-7 c = simp length-set (omega (arith, c.requires))

pub bounds-out-at-8 : goal.bounds-out-at-8
bounds-out-at-8 c = simp length-set (omega (arith, c.requires))

pub bounds-out-at-9 : goal.bounds-out-at-9
bounds-out-at-9 c = simp length-set (omega (arith, c.requires))

pub bounds-out-at-10 : goal.bounds-out-at-10
bounds-out-at-10 c = simp length-set (omega (arith, c.requires))

pub returns : goal.returns
unfolding second_component
returns c =
    let four = filled_more (filled_more (filled_more (filled_one _ refl) refl refl) refl refl) refl refl in
    let seven = filled_more (filled_more (filled_more four refl refl) refl refl) refl refl in
    filled_more (filled_more (filled_more seven refl refl) refl refl) refl refl
