-- `reflections` meets its contract: the reflections from k on make of the matrices now what all of them make of the matrices at the start. Assumes nothing.
use borrow.Author.Rules.{rules}
use native.Mathlib.Omega.{arith}
use mathlib.Core.Path.{◌≡◌, refl, sym, ap, ◌∙◌}
use Prim.Native.Nat.{◌+◌, ◌-◌, ◌*◌, ◌≤◌}
use lib.ListN.{length}
use Rattle.storage.specs.Iterate.{iterate, iterate_step, iterate_done}
use Rattle.matrix.specs.Layout.{transposed, Kept, kept_none, kept_then}
use Rattle.householder.specs.Reduction.{reduction_of, reflection, reductions}
use Rattle.householder.proofs.reflections.Goals as goal

pub loop-k-init : goal.loop-k-init
unfolding reductions
loop-k-init c = (omega arith, refl, refl, kept_none, kept_none, refl)

pub loop-k-preserved : goal.loop-k-preserved
loop-k-preserved c =
    let cleared = c.clear_column in
    let loop = c.loop-k in
    let a = c.args in
    let n = a.n in
    let s = reduction_of (transposed n loop.w) (transposed n loop.q) in
    let turn = cleared.ensures.q_after in
    let kept-w = cleared.ensures.kept_1 in
    let kept-q = cleared.ensures.kept_2 in (
      omega arith,
      omega arith,
      omega arith,
      kept_then loop.invariant.3 kept-w,
      kept_then loop.invariant.4 kept-q,
      ap (iterate (reflection n) (loop.k + 1) (n - 2)) turn ∙ sym (iterate_step (reflection n) loop.k (n - 2) s (omega arith)) ∙ loop.invariant.5,
    )

pub returns : goal.returns
returns c =
    let loop = c.loop-k in
    let a = c.args in
    let n = a.n in
    let s = reduction_of (transposed n loop.w) (transposed n loop.q) in
    record { q_after = sym (iterate_done (reflection n) loop.k (n - 2) s (omega arith)) ∙ loop.invariant.5; kept_1 = loop.invariant.3; kept_2 = loop.invariant.4 }
