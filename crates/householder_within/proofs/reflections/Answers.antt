-- `reflections` meets its contract. Assumes nothing.
use native.Mathlib.Omega.{arith}
use mathlib.Core.Path.{refl, sym, ap, ◌∙◌}
use Prim.Native.Nat.{◌+◌, ◌-◌}
use Rattle.storage.specs.Iterate.{iterate, iterate_step, iterate_done}
use Rattle.matrix.specs.Layout.{kept_none, kept_then}
use Rattle.householder.specs.Reduction.{reflection, reductions}
use Rattle.householder_within.specs.Within.{held_within, room_kept}
use Rattle.householder_within.proofs.reflections.Goals as goal

pub loop-k-init : goal.loop-k-init
unfolding reductions
loop-k-init c = (omega arith, refl, refl, kept_none, refl)

pub clear_column-requires : goal.clear_column-requires
clear_column-requires c =
    let pre = c.requires in
    record { fact_1 = omega arith; fact_2 = omega (arith, pre); fact_3 = omega (arith, pre); fact_4 = room_kept pre.fact_3 c.loop-k.invariant.3 }

pub loop-k-preserved : goal.loop-k-preserved
loop-k-preserved c =
    let turn = c.clear_column in
    let loop = c.loop-k in
    let a = c.args in
    let n = a.n in
    let s = held_within n a.at loop.w in (
      omega arith,
      omega arith,
      omega arith,
      kept_then loop.invariant.3 turn.ensures.fact_2,
      ap (iterate (reflection n) (loop.k + 1) (n - 2)) turn.ensures.fact_1
          ∙ sym (iterate_step (reflection n) loop.k (n - 2) s (omega arith))
          ∙ loop.invariant.4,
    )

pub returns : goal.returns
returns c =
    let loop = c.loop-k in
    let n = c.args.n in
    let s = held_within n c.args.at loop.w in
    record { fact_1 = sym (iterate_done (reflection n) loop.k (n - 2) s (omega arith)) ∙ loop.invariant.4; fact_2 = loop.invariant.3 }
